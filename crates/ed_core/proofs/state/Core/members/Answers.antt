use Rattle.std.proofs.Common.{sym, ◌∙◌}
use Rattle.ed_core.proofs.Reaching.{asked-missing}
use Rattle.ed_core.proofs.state.Core.members.Goals as goal

pub returns-in-None-clause-asked : goal.returns-in-None-clause-asked
returns-in-None-clause-asked c = asked-missing c.args.self.now c.args.spans.now c.loop-span.span-index c.span-item.result c.loop-span-test.true c.span-item.is (sym c.in-None.is ∙ c.in_ok-member.ensures.asked) c.loop-span.members.items c.loop-span.invariant.asked
