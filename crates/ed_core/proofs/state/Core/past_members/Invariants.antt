use Rattle.std.proofs.Common.{◌≡◌, drop, take}
use Rattle.std.specs.List.{All}
use Rattle.ed_group.specs.Answers.{LiesIn}
use Rattle.ed_core.specs.Asking.{past_members}
use Rattle.ed_core.proofs.state.Core.past_members.Given as goal

abbrev pub invariant-loop-member : goal.invariant-loop-member
invariant-loop-member l = record {
  rest : past_members l.self (drop l.member-index l.members) ≡ past_members l.self l.members;
  inside : All (LiesIn l.self.stock) (take l.member-index l.members);
}
