use Rattle.std.proofs.Common.{refl, subst}
use Rattle.std.specs.List.{All}
use Rattle.ed_group.specs.Answers.{LiesIn}
use Rattle.ed_core.proofs.Reaching.{past-here, past-on, all-more, whole}
use Rattle.ed_core.proofs.state.Core.past_members.Goals as goal

pub returns-in-Some-clause-refusal : goal.returns-in-Some-clause-refusal
returns-in-Some-clause-refusal c = past-here c.args.self.now c.args.members.now c.loop-member.member-index c.member-item.result c.in-Some.refusal c.loop-member-test.true c.member-item.is c.loop-member.invariant.rest c.in-Some.ensures.refusal

pub loop-member-preserved : goal.loop-member-preserved
loop-member-preserved c = record {
  rest = past-on c.args.self.now c.args.members.now c.loop-member.member-index c.member-item.result c.loop-member-test.true c.member-item.is c.loop-member.invariant.rest c.in_default.ensures.refusal;
  inside = all-more (LiesIn c.args.self.now.stock) c.args.members.now c.loop-member.member-index c.member-item.result c.loop-member-test.true c.member-item.is c.loop-member.invariant.inside (c.in_default.ensures.inside refl);
}

pub returns-clause-inside : goal.returns-clause-inside
returns-clause-inside c none = subst (All (LiesIn c.args.self.now.stock)) (whole c.args.members.now c.loop-member.member-index c.loop-member-test.false c.loop-member.auto.member-index-end) c.loop-member.invariant.inside
