use Rattle.std.proofs.Common.{◌≡◌, IfOk, OnOk, subst}
use Rattle.ed_callbacks.specs.HookLists.{hook_table}
use Rattle.ed_machine.specs.Accepted.{Outcome}
use Rattle.ed_core.proofs.Normalised.{form-lands, form-reply, form-state}
use Rattle.ed_core.proofs.state.Core.edit_text.Goals as goal

pub returns-in-Ok-clause-reply : goal.returns-in-Ok-clause-reply
returns-in-Ok-clause-reply g c = subst (λ (o : Outcome). IfOk c.land_changes.result (λ r. r ≡ o.reply)) (form-lands (hook_table c.args.hooks.now) c.args.self.now c.args.buffer c.args.replaces.now _ c.len_now-now_len.ensures.len c.normalise.result c.normalise.ensures.past _ c.in-Ok.is c.in-Ok.ensures.normal) c.land_changes.ensures.reply

pub returns-in-Ok-clause-state : goal.returns-in-Ok-clause-state
returns-in-Ok-clause-state g c = subst (λ (o : Outcome). OnOk c.land_changes.result (c.land_changes.new.self ≡ o.state)) (form-lands (hook_table c.args.hooks.now) c.args.self.now c.args.buffer c.args.replaces.now _ c.len_now-now_len.ensures.len c.normalise.result c.normalise.ensures.past _ c.in-Ok.is c.in-Ok.ensures.normal) c.land_changes.ensures.state

pub returns-in-Err-clause-reply : goal.returns-in-Err-clause-reply
returns-in-Err-clause-reply g c = form-reply (hook_table c.args.hooks.now) c.args.self.now c.args.buffer c.args.replaces.now _ c.len_now-now_len.ensures.len c.normalise.result c.normalise.ensures.past c.in-Err.fault c.in-Err.is c.unformed.result c.unformed.ensures.reply

pub returns-in-Err-clause-state : goal.returns-in-Err-clause-state
returns-in-Err-clause-state g c = form-state (hook_table c.args.hooks.now) c.args.self.now c.args.buffer c.args.replaces.now _ c.len_now-now_len.ensures.len c.normalise.result c.normalise.ensures.past c.in-Err.fault c.in-Err.is c.unformed.result c.unformed.ensures.reply
