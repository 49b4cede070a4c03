use Rattle.std.proofs.Common.{◌+◌, sym, ap, ◌∙◌}
use Rattle.ed_core.specs.Asking.{members_asked, spans_refusal}
use Rattle.ed_core.proofs.Commands.{spans_missing, spans_unnamed, spans_refused, spans_step}
use Rattle.ed_core.proofs.Doing.{does_as, refused_does}
use Rattle.ed_core.proofs.state.Core.replace_spans.Goals as goal

pub returns-in_default : goal.returns-in_default
returns-in_default c = λ hooks. refused_does _ c.args.self.now _ (spans_missing hooks c.args.self.now c.args.name.now c.args.first c.args.removed c.args.spans.now c.args.at.now c.in_default.ensures.number)

pub returns-in_default-2 : goal.returns-in_default-2
returns-in_default-2 c = λ hooks. refused_does _ c.args.self.now _ (spans_unnamed hooks c.args.self.now c.args.name.now c.args.first c.args.removed c.args.spans.now c.args.at.now c.in-Some.buffer c.in-Some.ensures.number (rw c.in_default-2.is at c.in_ok-members.ensures.asked ∙ ap (members_asked c.args.self.now) c.as_slice.ensures))

pub returns-in-Some-spans_refusal : goal.returns-in-Some-spans_refusal
returns-in-Some-spans_refusal c = λ hooks. refused_does _ c.args.self.now _ (spans_refused hooks c.args.self.now c.args.name.now c.args.first c.args.removed c.args.spans.now c.args.at.now c.in-Some.buffer c.in-Some.ensures.number c.in-Some-2.members.items (rw c.in-Some-2.is at c.in_ok-members.ensures.asked ∙ ap (members_asked c.args.self.now) c.as_slice.ensures) c.in-Some-spans_refusal.refusal (c.in-Some-spans_refusal.ensures.refusal ∙ (λ i. spans_refusal c.args.self.now c.in-Some.buffer c.args.at.now (c.from.ensures i + c.from-2.ensures i) (c.as_slice-2.ensures.value i))))

pub returns : goal.returns
returns c = λ hooks. does_as _ _ c.args.self.now c.set_spans.new.self c.set_spans.result (sym (spans_step hooks c.args.self.now c.args.name.now c.args.first c.args.removed c.args.spans.now c.args.at.now c.in-Some.buffer c.in-Some.ensures.number c.in-Some-2.members.items (rw c.in-Some-2.is at c.in_ok-members.ensures.asked ∙ ap (members_asked c.args.self.now) c.as_slice.ensures) (c.in_default-spans_refusal.ensures.refusal ∙ (λ i. spans_refusal c.args.self.now c.in-Some.buffer c.args.at.now (c.from.ensures i + c.from-2.ensures i) (c.as_slice-2.ensures.value i))) c.set_spans.ensures.within)) c.set_spans.ensures.reply c.set_spans.ensures.state c.set_spans.ensures.err c.set_spans.ensures.stay
