use Rattle.std.proofs.Common.{ap, ◌∙◌}
use Rattle.std.specs.Prelude.{is_some}
use Rattle.ed_callbacks.specs.HookLists.{hook_table}
use Rattle.ed_machine.specs.State.{number_of}
use Rattle.ed_core.specs.Asking.{members_asked, past_members}
use Rattle.ed_core.proofs.Commands.{projection_missing, projection_taken, projection_past, projection_unresolved, same-projection, is-taken, is-free}
use Rattle.ed_core.proofs.Doing.{does_as, refused_does}
use Rattle.ed_core.proofs.state.Core.make_projection.Goals as goal

pub returns-in_default : goal.returns-in_default
returns-in_default g c = refused_does _ c.args.self.now _ (projection_missing (hook_table c.args.hooks.now) c.args.self.now c.args.name.now c.args.spans.now c.args.resolver.now (rw c.in_default.is at c.in_ok-members.ensures.asked ∙ ap (members_asked c.args.self.now) c.as_slice.ensures))

pub returns-then-is_some : goal.returns-then-is_some
returns-then-is_some g c = refused_does _ c.args.self.now _ (projection_taken (hook_table c.args.hooks.now) c.args.self.now c.args.name.now c.args.spans.now c.args.resolver.now c.in-Some.members.items (rw c.in-Some.is at c.in_ok-members.ensures.asked ∙ ap (members_asked c.args.self.now) c.as_slice.ensures) (is-taken c.args.self.now c.args.name.now _ c.number_of.ensures.number c.if-is_some.ensures))

pub returns-in-Some-past_members : goal.returns-in-Some-past_members
returns-in-Some-past_members g c = refused_does _ c.args.self.now _ (projection_past (hook_table c.args.hooks.now) c.args.self.now c.args.name.now c.args.spans.now c.args.resolver.now c.in-Some.members.items c.in-Some-past_members.refusal (rw c.in-Some.is at c.in_ok-members.ensures.asked ∙ ap (members_asked c.args.self.now) c.as_slice.ensures) (is-free c.args.self.now c.args.name.now _ c.number_of.ensures.number c.if-is_some.ensures) (c.in-Some-past_members.ensures.refusal ∙ ap (past_members c.args.self.now) c.as_slice-2.ensures.value))

pub returns-in-Some-no_resolver : goal.returns-in-Some-no_resolver
returns-in-Some-no_resolver g c = refused_does _ c.args.self.now _ (projection_unresolved (hook_table c.args.hooks.now) c.args.self.now c.args.name.now c.args.spans.now c.args.resolver.now c.in-Some.members.items c.in-Some-no_resolver.missing c.in_ok-refusal.refusal (rw c.in-Some.is at c.in_ok-members.ensures.asked ∙ ap (members_asked c.args.self.now) c.as_slice.ensures) (is-free c.args.self.now c.args.name.now _ c.number_of.ensures.number c.if-is_some.ensures) (c.in_default-past_members.ensures.refusal ∙ ap (past_members c.args.self.now) c.as_slice-2.ensures.value) c.in-Some-no_resolver.ensures c.in_ok-refusal.ensures)

pub add_projection-requires-clause-new : goal.add_projection-requires-clause-new
add_projection-requires-clause-new g c = ap (λ n. is_some (number_of c.args.self.now n)) c.in_ok-kept.ensures ∙ (is-free c.args.self.now c.args.name.now _ c.number_of.ensures.number c.if-is_some.ensures)

pub returns : goal.returns
returns g c = does_as _ _ c.args.self.now c.add_projection.new.self c.add_projection.result (same-projection (hook_table c.args.hooks.now) c.args.self.now _ c.args.name.now c.args.spans.now c.in-Some.members.items _ c.args.resolver.now c.in_ok-kept.ensures c.in_ok-resolver.ensures (rw c.in-Some.is at c.in_ok-members.ensures.asked ∙ ap (members_asked c.args.self.now) c.as_slice.ensures) (is-free c.args.self.now c.args.name.now _ c.number_of.ensures.number c.if-is_some.ensures) (c.in_default-past_members.ensures.refusal ∙ ap (past_members c.args.self.now) c.as_slice-2.ensures.value) c.in_default-no_resolver.ensures c.add_projection.ensures.within) c.add_projection.ensures.reply c.add_projection.ensures.state c.add_projection.ensures.err c.add_projection.ensures.stay
