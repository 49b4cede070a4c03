use Rattle.std.proofs.Common.{sym, ap, subst, ◌∙◌}
use Rattle.std.specs.Prelude.{is_some}
use Rattle.std.specs.List.{All}
use Rattle.ed_callbacks.specs.HookLists.{hook_table}
use Rattle.ed_machine.specs.Refusals.{ends_of, past}
use Rattle.ed_machine.specs.State.{number_of}
use Rattle.ed_core.proofs.Commands.{is-taken, is-free}
use Rattle.ed_core.proofs.Doing.{does_as, refused_does}
use Rattle.ed_core.proofs.ElisionTelling.{elision_missing, elision_taken, elision_past, elision_unresolved, same-elision}
use Rattle.ed_core.proofs.state.Core.make_elision.Goals as goal

pub returns-in_default : goal.returns-in_default
returns-in_default g c = refused_does _ c.args.self.now _ (elision_missing (hook_table c.args.hooks.now) c.args.self.now c.args.name.now c.args.source.now c.args.hide.now c.args.resolver.now c.in_default.ensures.number)

pub returns-then-is_some : goal.returns-then-is_some
returns-then-is_some g c = refused_does _ c.args.self.now _ (elision_taken (hook_table c.args.hooks.now) c.args.self.now c.args.name.now c.args.source.now c.args.hide.now c.args.resolver.now c.in-Some.buffer c.in-Some.ensures.number (is-taken c.args.self.now c.args.name.now _ c.number_of-2.ensures.number c.if-is_some.ensures))

pub returns-in-Some-past_ends : goal.returns-in-Some-past_ends
returns-in-Some-past_ends g c = refused_does _ c.args.self.now _ (elision_past (hook_table c.args.hooks.now) c.args.self.now c.args.name.now c.args.source.now c.args.hide.now c.args.resolver.now c.in-Some.buffer c.in-Some.ensures.number (is-free c.args.self.now c.args.name.now _ c.number_of-2.ensures.number c.if-is_some.ensures) c.in-Some-past_ends.refusal (c.in-Some-past_ends.ensures.refusal ∙ (λ i. past (ends_of (c.as_slice-hide.ensures i)) (c.len_now.ensures.len i))))

pub returns-in-Some-no_resolver : goal.returns-in-Some-no_resolver
returns-in-Some-no_resolver g c = refused_does _ c.args.self.now _ (elision_unresolved (hook_table c.args.hooks.now) c.args.self.now c.args.name.now c.args.source.now c.args.hide.now c.args.resolver.now c.in-Some.buffer c.in-Some.ensures.number (is-free c.args.self.now c.args.name.now _ c.number_of-2.ensures.number c.if-is_some.ensures) c.in-Some-no_resolver.missing c.in_ok-refusal.refusal (c.in_default-past_ends.ensures.refusal ∙ (λ i. past (ends_of (c.as_slice-hide.ensures i)) (c.len_now.ensures.len i))) c.in-Some-no_resolver.ensures c.in_ok-refusal.ensures)

pub add_elision-requires-clause-new : goal.add_elision-requires-clause-new
add_elision-requires-clause-new g c = ap (λ n. is_some (number_of c.args.self.now n)) c.in_ok-kept.ensures ∙ (is-free c.args.self.now c.args.name.now _ c.number_of-2.ensures.number c.if-is_some.ensures)

pub returns : goal.returns
returns g c = does_as _ _ c.args.self.now c.add_elision.new.self c.add_elision.result (same-elision (hook_table c.args.hooks.now) c.args.self.now _ c.args.name.now c.args.source.now c.in-Some.buffer _ c.args.hide.now _ c.args.resolver.now c.in_ok-kept.ensures c.in_ok-resolver.ensures c.as_slice-hide.ensures c.in-Some.ensures.number (is-free c.args.self.now c.args.name.now _ c.number_of-2.ensures.number c.if-is_some.ensures) (c.in_default-past_ends.ensures.refusal ∙ (λ i. past (ends_of (c.as_slice-hide.ensures i)) (c.len_now.ensures.len i))) c.in_default-no_resolver.ensures c.add_elision.ensures.within) c.add_elision.ensures.reply c.add_elision.ensures.state c.add_elision.ensures.err c.add_elision.ensures.stay
