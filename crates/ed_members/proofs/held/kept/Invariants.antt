use Rattle.std.proofs.Common.{◌≡◌, map, take}
use Rattle.ed_members.specs.Advance.{kept_of}
use Rattle.ed_members.specs.Steps.{steps_seen}
use Rattle.ed_members.proofs.held.kept.Given as goal

abbrev pub invariant-loop-index : goal.invariant-loop-index
invariant-loop-index l = l.held.items ≡ map (kept_of (steps_seen l.steps)) (take l.index l.members)
