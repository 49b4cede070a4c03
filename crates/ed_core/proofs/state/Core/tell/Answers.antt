-- What a command's function does is said of the command that it matched; what only reads is answered in one place.
use Rattle.std.proofs.Common.{◌≡◌, Ok, ap, sym, subst, ◌∙◌}
use Rattle.ed_callbacks.specs.HookLists.{hook_table}
use Rattle.ed_machine.specs.Accepted.{Outcome, answers}
use Rattle.ed_machine.specs.Step.{told, weighed, within_limits}
use Rattle.ed_script.specs.declared.kinds.Command.{Command}
use Rattle.ed_core.specs.Doing.{Does}
use Rattle.ed_core.proofs.Answering.{answered_as, text_reads, lines_reads, changes_reads, versions_reads, point_reads, span_reads, readonly_reads, nearest_reads}
use Rattle.ed_core.proofs.state.Core.tell.Goals.{in-Readonly, in-Text+in_ok-reply-in-Text, in-Lines+in_ok-reply-in-Lines, in-Changes+in_ok-reply-in-Changes, in-Versions+in_ok-reply-in-Versions, in-Point, in-Span, in-Nearest}
use Rattle.ed_core.proofs.state.Core.tell.Goals as goal

pub returns-in-Buffer : goal.returns-in-Buffer
returns-in-Buffer g c = subst (λ (x : Command). Does (told (hook_table c.args.hooks.now) c.args.self.now x) c.args.self.now c.make_buffer.new.self c.make_buffer.result) (sym c.in-Buffer.is) (c.make_buffer.ensures (hook_table c.args.hooks.now))

pub returns-in-Spans : goal.returns-in-Spans
returns-in-Spans g c = subst (λ (x : Command). Does (told (hook_table c.args.hooks.now) c.args.self.now x) c.args.self.now c.replace_spans.new.self c.replace_spans.result) (sym c.in-Spans.is) (c.replace_spans.ensures (hook_table c.args.hooks.now))

pub returns-in-Elide : goal.returns-in-Elide
returns-in-Elide g c = subst (λ (x : Command). Does (told (hook_table c.args.hooks.now) c.args.self.now x) c.args.self.now c.elide.new.self c.elide.result) (sym c.in-Elide.is) (c.elide.ensures (hook_table c.args.hooks.now))

pub returns-in-Unregion : goal.returns-in-Unregion
returns-in-Unregion g c = subst (λ (x : Command). Does (told (hook_table c.args.hooks.now) c.args.self.now x) c.args.self.now c.remove_region.new.self (Ok c.remove_region.result)) (sym c.in-Unregion.is) (c.remove_region.ensures (hook_table c.args.hooks.now))

pub returns : goal.returns
returns g c =
    let hooks = hook_table c.args.hooks.now in
    let s = c.args.self.now in
    let reads : within_limits s (weighed (answers s c.match-command.reply)) ≡ told hooks s c.args.command.now =
    elim c.match-command.branch [
      | in-Readonly w ↦ ap (λ r. within_limits s (weighed (answers s r))) w.reply-is ∙ answered_as hooks s _ _ _ w.in-Readonly.is c.answer.ensures.within (readonly_reads hooks s _ _ _) w.readonly_told-reply.ensures
      | in-Text+in_ok-reply-in-Text w ↦ ap (λ r. within_limits s (weighed (answers s r))) w.reply-is ∙ answered_as hooks s _ _ _ w.in-Text.is c.answer.ensures.within (text_reads hooks s _ _) (w.in_ok-reply-in-Text.ensures hooks)
      | in-Lines+in_ok-reply-in-Lines w ↦ ap (λ r. within_limits s (weighed (answers s r))) w.reply-is ∙ answered_as hooks s _ _ _ w.in-Lines.is c.answer.ensures.within (lines_reads hooks s _ _) (w.in_ok-reply-in-Lines.ensures hooks)
      | in-Changes+in_ok-reply-in-Changes w ↦ ap (λ r. within_limits s (weighed (answers s r))) w.reply-is ∙ answered_as hooks s _ _ _ w.in-Changes.is c.answer.ensures.within (changes_reads hooks s _ _) (w.in_ok-reply-in-Changes.ensures hooks)
      | in-Versions+in_ok-reply-in-Versions w ↦ ap (λ r. within_limits s (weighed (answers s r))) w.reply-is ∙ answered_as hooks s _ _ _ w.in-Versions.is c.answer.ensures.within (versions_reads hooks s _) (w.in_ok-reply-in-Versions.ensures hooks)
      | in-Point w ↦ ap (λ r. within_limits s (weighed (answers s r))) w.reply-is ∙ answered_as hooks s _ _ _ w.in-Point.is c.answer.ensures.within (point_reads hooks s _ _ _ _ _) (w.point_told-reply.ensures hooks)
      | in-Span w ↦ ap (λ r. within_limits s (weighed (answers s r))) w.reply-is ∙ answered_as hooks s _ _ _ w.in-Span.is c.answer.ensures.within (span_reads hooks s _ _ _ _ _ _) w.span_told-reply.ensures
      | in-Nearest w ↦ ap (λ r. within_limits s (weighed (answers s r))) w.reply-is ∙ answered_as hooks s _ _ _ w.in-Nearest.is c.answer.ensures.within (nearest_reads hooks s _ _) (w.nearest_told-reply.ensures hooks)
    ] in
    record {
      reply = c.answer.ensures.reply ∙ ap (λ (o : Outcome). o.reply) reads;
      state = c.answer.ensures.state ∙ ap (λ (o : Outcome). o.state) reads;
      err = tt;
      stay = c.answer.ensures.stay;
    }
