use Rattle.std.proofs.Common.{◌≡◌, map, take}
use Rattle.ed_members.specs.Advance.{step_index}
use Rattle.ed_members.proofs.held.step_indices.Given as goal

abbrev pub invariant-loop-member : goal.invariant-loop-member
invariant-loop-member l = l.indices.items ≡ map (step_index l.steps) (take l.member-index l.members)
