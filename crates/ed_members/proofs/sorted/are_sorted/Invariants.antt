use Rattle.std.proofs.Common.{◌<◌, ℕ, ◌+◌}
use Rattle.ed_members.proofs.Sorting.{Rises}
use Rattle.ed_members.proofs.sorted.are_sorted.Given as goal

abbrev pub invariant-loop-at : goal.invariant-loop-at
invariant-loop-at l = (k : ℕ) → k + 1 < l.at → Rises l.members l.order k
