use Rattle.std.proofs.Common.{◌≡◌, ◌++◌, map, drop}
use Rattle.std.specs.List.{enumerate_from}
use Rattle.ed_layers.specs.Bounds.{member_after, members_after}
use Rattle.ed_members.specs.Steps.{steps_seen}
use Rattle.ed_members.proofs.moving.moved_members.Given as goal

abbrev pub invariant-loop-index : goal.invariant-loop-index
invariant-loop-index l = l.list.items ++ map (member_after l.fn.me (steps_seen l.steps) l.fn.members) (enumerate_from l.index (drop l.index l.fn.members)) ≡ members_after l.fn.me (steps_seen l.steps) l.fn.members
