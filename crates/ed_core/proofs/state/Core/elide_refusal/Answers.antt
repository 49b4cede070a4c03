use Rattle.std.proofs.Common.{sym, ap, ◌∙◌}
use Rattle.ed_base.specs.Numbers.{or_else}
use Rattle.ed_machine.specs.Refusals.{ends_of, past}
use Rattle.ed_core.proofs.SpanEnds.{elide-judged}
use Rattle.ed_core.proofs.state.Core.elide_refusal.Goals as goal

pub returns-in-Some-past_ends-clause-refusal : goal.returns-in-Some-past_ends-clause-refusal
returns-in-Some-past_ends-clause-refusal c = ap (λ o. or_else o (past (ends_of c.args.show.now) c.len-len.result)) c.in-Some-past_ends.ensures.refusal ∙ sym (elide-judged _ c.args.self.now c.self.view_is c.args.buffer c.len-len.result c.args.at.now c.args.hide.now c.args.show.now _ c.in-Some.ensures.elision c.in-Some.ensures.hidden c.len-len.ensures c.in_default-stale.ensures)

pub returns-clause-refusal : goal.returns-clause-refusal
returns-clause-refusal c = c.past_ends-2.ensures.refusal ∙ (ap (λ o. or_else o (past (ends_of c.args.show.now) c.len-len.result)) c.in_default-past_ends.ensures.refusal ∙ sym (elide-judged _ c.args.self.now c.self.view_is c.args.buffer c.len-len.result c.args.at.now c.args.hide.now c.args.show.now _ c.in-Some.ensures.elision c.in-Some.ensures.hidden c.len-len.ensures c.in_default-stale.ensures))
