-- One step more, and all.
use Rattle.std.proofs.Common.{◌≡◌, ℕ, ◌+◌, List, ◌∷◌, drop, get_or, Option, None, sym, ◌∙◌, ap, subst, arith, inl, inr}
use Rattle.std.specs.Prelude.{slice_get}
use Rattle.std.proofs.lemmas.Bool.{cases_lt}
use Rattle.std.proofs.lemmas.List.{drop_all}
use Rattle.ed_base.proofs.NormalLists.{rest_at}
use Rattle.ed_members.specs.Advance.{IsSound, with_steps}
use Rattle.ed_members.specs.declared.held.Held.{Held}
use Rattle.ed_members.specs.declared.steps.SourceStep.{SourceStep}
use Rattle.ed_members.proofs.Putting.{held_all, read_at}
use Rattle.ed_members.proofs.held.held_by.Goals as goal

pub loop-index-preserved : goal.loop-index-preserved
loop-index-preserved c =
    let steps : List SourceStep = c.args.steps.now in
    let k : ℕ = c.loop-index.index in
    let rest : drop k steps ≡ c.index-steps-index.result ∷ drop (k + 1) steps = rest_at c.args.steps.now c.loop-index.index c.index-steps-index.result c.loop-index-test.true c.index-steps-index.is in
    record {
      long = c.put_runs.ensures.long ∙ c.loop-index.invariant.long;
      each = λ i.
          ap (λ (h : Option Held). with_steps c.args.me (k + 1) (slice_get c.args.indices.now i) i h (drop (k + 1) steps)) (c.put_runs.ensures.each i)
          ∙ (ap (λ (xs : List SourceStep). with_steps c.args.me k (slice_get c.args.indices.now i) i (get_or c.loop-index.held.items i None) xs) (sym rest) ∙ c.loop-index.invariant.each i);
      sound = λ t s below at. elim (cases_lt t k) [
        | inl l ↦ c.loop-index.invariant.sound t s l at
        | inr g ↦ (let e : t ≡ k = omega arith in
            let here : get_or steps k c.index-steps-index.result ≡ s = read_at steps k s c.index-steps-index.result (ap (slice_get steps) (sym e) ∙ at) in
            subst IsSound (c.index-steps-index.is ∙ here) c.put_runs.ensures.sound)
      ];
    }

pub returns-clause-held : goal.returns-clause-held
returns-clause-held c =
    held_all c.args.me c.args.members.now c.args.steps.now c.args.indices.now c.loop-index.held.items c.requires.first c.loop-index.invariant.long
    (λ i. ap (λ (xs : List SourceStep). with_steps c.args.me c.loop-index.index (slice_get c.args.indices.now i) i (get_or c.loop-index.held.items i None) xs) (sym (drop_all c.loop-index.index c.args.steps.now c.loop-index-test.false)) ∙ c.loop-index.invariant.each i)
    (λ t s below at. c.loop-index.invariant.sound t s (omega (arith, c.loop-index-test.false)) at)

pub returns-clause-sound : goal.returns-clause-sound
returns-clause-sound c = λ t s below at. c.loop-index.invariant.sound t s (omega (arith, c.loop-index-test.false)) at
