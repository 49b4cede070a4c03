use Rattle.std.proofs.Common.{sym, ap}
use Rattle.ed_machine.specs.Accepted.{Outcome}
use Rattle.ed_core.proofs.Limits.{heavy-answer, light-answer}
use Rattle.ed_core.proofs.state.Core.answer.Goals as goal

pub returns-then-answered-gt-MOST_ANSWERED-clause-reply : goal.returns-then-answered-gt-MOST_ANSWERED-clause-reply
returns-then-answered-gt-MOST_ANSWERED-clause-reply c = sym (ap (λ (o : Outcome). o.reply) (heavy-answer c.args.self.now _ c.args.reply c.weight.result c.self.view_is c.self.invariant.1 c.weight.ensures.weight c.if-answered-gt-MOST_ANSWERED.true))

pub returns-then-answered-gt-MOST_ANSWERED-clause-state : goal.returns-then-answered-gt-MOST_ANSWERED-clause-state
returns-then-answered-gt-MOST_ANSWERED-clause-state c = sym (ap (λ (o : Outcome). o.state) (heavy-answer c.args.self.now _ c.args.reply c.weight.result c.self.view_is c.self.invariant.1 c.weight.ensures.weight c.if-answered-gt-MOST_ANSWERED.true))

pub returns-clause-reply : goal.returns-clause-reply
returns-clause-reply c = sym (ap (λ (o : Outcome). o.reply) (light-answer c.args.self.now _ c.args.reply c.weight.result c.self.view_is c.self.invariant.1 c.weight.ensures.weight c.if-answered-gt-MOST_ANSWERED.false))

pub returns-clause-state : goal.returns-clause-state
returns-clause-state c = sym (ap (λ (o : Outcome). o.state) (light-answer c.args.self.now _ c.args.reply c.weight.result c.self.view_is c.self.invariant.1 c.weight.ensures.weight c.if-answered-gt-MOST_ANSWERED.false))
