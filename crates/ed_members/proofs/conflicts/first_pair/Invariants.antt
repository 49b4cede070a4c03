use Rattle.std.proofs.Common.{◌≡◌, drop}
use Rattle.std.specs.List.{enumerate_from}
use Rattle.ed_layers.specs.Order.{first_conflict}
use Rattle.ed_members.proofs.conflicts.first_pair.Given as goal

abbrev pub invariant-loop-index : goal.invariant-loop-index
invariant-loop-index l = first_conflict (enumerate_from l.index (drop l.index l.members)) ≡ first_conflict (enumerate_from 0 l.members)
