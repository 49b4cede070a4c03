use Rattle.std.proofs.Common.{◌≡◌, ◌++◌, drop}
use Rattle.ed_base.specs.NewStarts.{new_starts}
use Rattle.ed_change.proofs.Splicing.{turned_all}
use Rattle.ed_change.proofs.back.inverse.Given as goal

abbrev pub invariant-loop-i : goal.invariant-loop-i
invariant-loop-i l = l.list.items ++ turned_all l.units (drop l.i (new_starts l.changes)) (drop l.i l.changes.changes) ≡ turned_all l.units (new_starts l.changes) l.changes.changes
