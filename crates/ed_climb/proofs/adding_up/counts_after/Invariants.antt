use Rattle.std.proofs.Common.{◌≡◌, take}
use Rattle.ed_climb.specs.Counted.{counts_after}
use Rattle.ed_climb.proofs.adding_up.counts_after.Given as goal

abbrev pub invariant-loop-next : goal.invariant-loop-next
invariant-loop-next l = l.all ≡ counts_after l.counts (take l.next-index l.moves)
