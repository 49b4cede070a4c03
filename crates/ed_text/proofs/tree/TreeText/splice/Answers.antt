use Rattle.std.proofs.Common.{ℕ, ◌+◌, ◌-◌, length, arith, inl, inr}
use Rattle.std.proofs.lemmas.Bool.{cases_lt}
use Rattle.ed_text.proofs.Rows.{digits}
use Rattle.ed_text.proofs.tree.TreeText.splice.Goals as goal

pub returns-then-new_len-le-SMALL_MOST-clause-cost : goal.returns-then-new_len-le-SMALL_MOST-clause-cost
returns-then-new_len-le-SMALL_MOST-clause-cost g c = λ e h.
    let n : ℕ = length c.args.self.now + length c.args.insert.now - c.args.span.len in
    elim (cases_lt n 16) [
      | inl p ↦ omega (arith, c.splice_short.ensures.cost)
      | inr p ↦ let d = digits n e p (omega arith) in omega (arith, c.splice_short.ensures.cost)
    ]
