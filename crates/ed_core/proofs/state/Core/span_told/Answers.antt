use Rattle.std.proofs.Common.{◌∙◌}
use Rattle.ed_callbacks.specs.HookLists.{hook_table}
use Rattle.ed_core.proofs.Answering.{span_read}
use Rattle.ed_core.proofs.state.Core.span_told.Goals as goal

pub returns-in-Some : goal.returns-in-Some
returns-in-Some g c = c.span.ensures ∙ span_read (hook_table c.args.hooks.now) c.args.self.now c.args.name.now c.in-Some.buffer c.in-Some.ensures.number c.args.how.now c.args.span c.args.at.now c.args.to.now
