-- One step more.
use Rattle.std.proofs.Common.{◌≡◌, ℕ, ◌+◌, List, ◌∷◌, drop, Option, Some, None, sym, ◌∙◌, ap}
use Rattle.std.specs.Prelude.{nat_eq, if◌then◌else◌}
use Rattle.std.specs.BTreeMap.{get}
use Rattle.std.specs.Ordering.{nat_cmp}
use Rattle.std.proofs.lemmas.List.{drop_all}
use Rattle.ed_base.proofs.NormalLists.{rest_at}
use Rattle.ed_base.specs.Numbers.{or_else}
use Rattle.ed_members.specs.Advance.{index_from}
use Rattle.ed_members.specs.declared.steps.SourceStep.{SourceStep}
use Rattle.ed_members.proofs.Indices.{first_more, first_all}
use Rattle.ed_members.proofs.held.first_steps.Goals as goal

pub loop-index-preserved : goal.loop-index-preserved
loop-index-preserved c = λ b.
    let k : ℕ = c.loop-index.index in
    let rest : drop k c.args.steps.now ≡ c.index-steps-index.result ∷ drop (k + 1) c.args.steps.now = rest_at c.args.steps.now c.loop-index.index c.index-steps-index.result c.loop-index-test.true c.index-steps-index.is in
    ap (λ (o : Option ℕ). or_else o (index_from (k + 1) b (drop (k + 1) c.args.steps.now))) (c.in_ok-put_first.ensures b)
    ∙ (ap (λ (s : SourceStep). or_else (or_else (get nat_cmp c.loop-index.first b) (if nat_eq s.source b then Some k else None)) (index_from (k + 1) b (drop (k + 1) c.args.steps.now))) (sym c.index-steps-index.is)
    ∙ (first_more (get nat_cmp c.loop-index.first b) k b c.index-steps-index.result (drop (k + 1) c.args.steps.now)
    ∙ (ap (λ (xs : List SourceStep). or_else (get nat_cmp c.loop-index.first b) (index_from k b xs)) (sym rest) ∙ c.loop-index.invariant b)))

pub returns : goal.returns
returns c = λ b.
    sym (first_all (get nat_cmp c.loop-index.first b))
    ∙ (ap (λ (xs : List SourceStep). or_else (get nat_cmp c.loop-index.first b) (index_from c.loop-index.index b xs)) (sym (drop_all c.loop-index.index c.args.steps.now c.loop-index-test.false)) ∙ c.loop-index.invariant b)
