-- Each key is no less than the one before it.
use Rattle.std.proofs.Common.{◌≡◌, ℕ, ◌+◌, ◌-◌, is_lt, inl, inr, ap, sym, ◌∙◌, arith}
use Rattle.std.specs.Prelude.{slice_get, slice_index}
use Rattle.std.proofs.lemmas.Bool.{cases_lt}
use Rattle.ed_members.specs.Sorted.{key_of}
use Rattle.ed_members.proofs.Sorting.{rises_here, sorted_keys}
use Rattle.ed_members.proofs.sorted.are_sorted.Goals as goal

pub loop-at-preserved : goal.loop-at-preserved
loop-at-preserved c = λ k below. elim (cases_lt (k + 1) c.loop-at.at) [
  | inl early ↦ c.loop-at.invariant k early
  | inr last ↦
      (let e : c.loop-at.at ≡ k + 1 = omega (arith, below) in
      let e' : c.loop-at.at - 1 ≡ k = omega arith in
      rises_here c.args.members.now c.args.order.now k c.key.result c.key-before.result (omega (arith, c.loop-at-test.true))
      (c.key.ensures ∙ ap (λ (i : ℕ). key_of (slice_get c.args.members.now (slice_index c.args.order.now i)) (slice_index c.args.order.now i)) e)
      (c.key-before.ensures ∙ ap (λ (i : ℕ). key_of (slice_get c.args.members.now (slice_index c.args.order.now i)) (slice_index c.args.order.now i)) e')
      (ap is_lt (sym c.cmp.ensures) ∙ (sym c.is_lt.ensures ∙ c.if-is_lt.false)))
]

pub returns : goal.returns
returns c = λ t. sorted_keys c.args.members.now c.args.order.now c.requires (λ k d low below. c.loop-at.invariant k (omega (arith, below, c.loop-at-test.false)) d)
