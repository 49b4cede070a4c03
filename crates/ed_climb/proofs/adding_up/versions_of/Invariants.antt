use Rattle.std.proofs.Common.{◌≡◌, map, take}
use Rattle.ed_climb.specs.Counted.{told}
use Rattle.ed_climb.proofs.adding_up.versions_of.Given as goal

abbrev pub invariant-loop-next : goal.invariant-loop-next
invariant-loop-next l = l.versions.items ≡ map told (take l.next-index l.moves)
