use Rattle.std.proofs.Common.{◌≡◌, ◌+◌}
use Rattle.ed_members.specs.Faults.{other_from}
use Rattle.ed_members.proofs.conflicts.other_behind.Given as goal

abbrev pub invariant-loop-other : goal.invariant-loop-other
invariant-loop-other l = other_from l.members (l.fn.index, l.member) l.other ≡ other_from l.members (l.fn.index, l.member) (l.fn.index + 1)
