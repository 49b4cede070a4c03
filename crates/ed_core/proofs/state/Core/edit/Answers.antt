use Rattle.std.proofs.Common.{sym, ap, ◌∙◌}
use Rattle.ed_callbacks.specs.HookLists.{hook_table}
use Rattle.ed_core.specs.Asking.{replaces_outcome}
use Rattle.ed_core.proofs.Commands.{edit_missing, edit_refused, edit_step}
use Rattle.ed_core.proofs.Doing.{does_as, refused_does}
use Rattle.ed_core.proofs.state.Core.edit.Goals as goal

pub returns-in_default : goal.returns-in_default
returns-in_default g c = refused_does _ c.args.self.now _ (edit_missing (hook_table c.args.hooks.now) c.args.self.now c.args.name.now c.args.replaces.now c.args.at.now c.in_default.ensures.number)

pub returns-in-Some-stale : goal.returns-in-Some-stale
returns-in-Some-stale g c = refused_does _ c.args.self.now _ (edit_refused (hook_table c.args.hooks.now) c.args.self.now c.args.name.now c.args.replaces.now c.args.at.now c.in-Some.buffer c.in-Some.ensures.number c.in-Some-stale.refusal c.in-Some-stale.ensures)

pub returns : goal.returns
returns g c = does_as _ _ c.args.self.now c.edit_text.new.self c.edit_text.result (ap (replaces_outcome (hook_table c.args.hooks.now) c.args.self.now c.in-Some.buffer) c.as_slice.ensures ∙ sym (edit_step (hook_table c.args.hooks.now) c.args.self.now c.args.name.now c.args.replaces.now c.args.at.now c.in-Some.buffer c.in-Some.ensures.number c.in_default-stale.ensures c.edit_text.ensures.within)) c.edit_text.ensures.reply c.edit_text.ensures.state c.edit_text.ensures.err c.edit_text.ensures.stay
