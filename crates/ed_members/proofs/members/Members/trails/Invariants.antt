use Rattle.ed_members.specs.Steps.{steps_seen}
use Rattle.ed_members.proofs.HandingUp.{SayFirst}
use Rattle.ed_members.proofs.members.Members.trails.Given as goal

abbrev pub invariant-loop-index : goal.invariant-loop-index
invariant-loop-index l = SayFirst l.fn.me l.of_elision (steps_seen l.steps) l.self l.index l.list.items
