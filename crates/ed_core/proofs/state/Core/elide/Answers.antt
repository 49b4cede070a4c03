use Rattle.std.proofs.Common.{◌++◌, sym, ◌∙◌}
use Rattle.ed_machine.specs.Refusals.{ends_of}
use Rattle.ed_core.specs.Asking.{elide_refusal}
use Rattle.ed_core.specs.Deciding.{hidden_outcome}
use Rattle.ed_core.proofs.Doing.{does_as, refused_does}
use Rattle.ed_core.proofs.ElisionTelling.{elide_missing, elide_refused, elide_step}
use Rattle.ed_core.proofs.state.Core.elide.Goals as goal

pub returns-in_default : goal.returns-in_default
returns-in_default c = λ hooks. refused_does _ c.args.self.now _ (elide_missing hooks c.args.self.now c.args.name.now c.args.hide.now c.args.show.now c.args.at.now c.in_default.ensures.number)

pub returns-in-Some-elide_refusal : goal.returns-in-Some-elide_refusal
returns-in-Some-elide_refusal c = λ hooks. refused_does _ c.args.self.now _ (elide_refused hooks c.args.self.now c.args.name.now c.args.hide.now c.args.show.now c.args.at.now c.in-Some.buffer c.in-Some.ensures.number c.in-Some-elide_refusal.refusal
    (c.in-Some-elide_refusal.ensures.refusal ∙ (λ i. elide_refusal c.args.self.now c.in-Some.buffer c.args.at.now (ends_of (c.as_slice-hide.ensures i) ++ ends_of (c.as_slice-show.ensures i)))))

pub returns : goal.returns
returns c = λ hooks. does_as _ _ c.args.self.now c.set_hidden.new.self c.set_hidden.result
    ((λ i. hidden_outcome c.args.self.now c.in-Some.buffer (c.as_slice-hide.ensures i) (c.as_slice-show.ensures i)) ∙ sym (elide_step hooks c.args.self.now c.args.name.now c.args.hide.now c.args.show.now c.args.at.now c.in-Some.buffer c.in-Some.ensures.number
    (c.in_default-elide_refusal.ensures.refusal ∙ (λ i. elide_refusal c.args.self.now c.in-Some.buffer c.args.at.now (ends_of (c.as_slice-hide.ensures i) ++ ends_of (c.as_slice-show.ensures i)))) c.set_hidden.ensures.within))
    c.set_hidden.ensures.reply c.set_hidden.ensures.state c.set_hidden.ensures.err c.set_hidden.ensures.stay
