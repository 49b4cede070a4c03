-- The step at the index.
use Rattle.std.proofs.Common.{◌≡◌, ◌<◌, ℕ, ◌+◌, List, length, get_or, Option, Some, None, Bor, sym, ◌∙◌, ap, arith}
use Rattle.std.specs.Prelude.{IfSome, IsSome, MatchOption}
use Rattle.std.proofs.lemmas.Option.{slice_get-get_or}
use Rattle.ed_members.specs.Advance.{index_from}
use Rattle.ed_members.specs.declared.steps.SourceStep.{SourceStep}
use Rattle.ed_members.specs.Steps.{steps_seen, step_seen}
use Rattle.ed_members.proofs.Indices.{index_found, index_missing, index_below}
use Rattle.ed_members.proofs.held.step_of.Goals as goal

pub returns-in-None : goal.returns-in-None
returns-in-None c = index_missing 0 c.args.source c.args.steps.now (sym c.requires ∙ c.in-None.is)

got : (b k : ℕ) (steps : List SourceStep) (o : Option (Bor SourceStep)) → index_from 0 b steps ≡ Some k → k < length steps → IfSome o (λ x. x.now ≡ get_or steps k x.now) → IsSome o
    → MatchOption o (steps_seen steps b ≡ None) (λ s. steps_seen steps b ≡ Some (step_seen s.now))
got b k steps None is below read some = absurd (cc)
got b k steps (Some x) is below read some =
    index_found 0 b steps k x.now (is ∙ ap Some (let e : k ≡ 0 + k = omega arith in e)) (slice_get-get_or steps k x.now below ∙ ap Some (sym read))

pub returns-in-Some : goal.returns-in-Some
returns-in-Some c =
    let is : index_from 0 c.args.source c.args.steps.now ≡ Some c.in-Some.index = sym c.requires ∙ c.in-Some.is in
    let low : c.in-Some.index < 0 + length c.args.steps.now = index_below 0 c.args.source c.args.steps.now c.in-Some.index is in
    let below : c.in-Some.index < length c.args.steps.now = omega arith in
    got c.args.source c.in-Some.index c.args.steps.now c.get.result is below c.get.ensures.lookup.1 (c.get.ensures.lookup.2 below)
