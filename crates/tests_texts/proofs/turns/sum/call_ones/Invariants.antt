use Rattle.std.proofs.Common.{◌≡◌}
use Rattle.tests_texts.proofs.turns.sum.call_ones.Given as goal

abbrev pub invariant-loop : goal.invariant-loop
invariant-loop g l = (l.seat.lock ≡ l.initial.seat.lock) × (l.seat.taken ≡ l.initial.seat.taken)
