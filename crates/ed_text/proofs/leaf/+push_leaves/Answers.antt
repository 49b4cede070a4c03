use Rattle.std.proofs.Common.{ℕ, length, arith, length-take, length-drop, ap}
use Rattle.ed_text.proofs.leaf.+push_leaves.Goals as goal

pub returns-clause-half_full : goal.returns-clause-half_full
returns-clause-half_full g t c = λ h n. c.in_ok-push_leaves-2.ensures.half_full (c.in_ok-push_leaves.ensures.half_full h (omega (arith, length-take {A = ℕ}))) (omega (arith, length-take {A = ℕ}, length-drop {A = ℕ}))

pub returns-clause-balanced : goal.returns-clause-balanced
returns-clause-balanced g t c = λ e one. c.in_ok-push_leaves-2.ensures.half_full (c.in_ok-push_leaves.ensures.half_full (λ k d l. absurd (omega (arith, ap length e))) (omega (arith, length-take {A = ℕ}))) (omega (arith, length-take {A = ℕ}, length-drop {A = ℕ}))
