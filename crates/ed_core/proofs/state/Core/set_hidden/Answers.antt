use Rattle.std.proofs.Common.{◌∙◌, ap, subst}
use Rattle.ed_risen.specs.Laws.{RecordsStay}
use Rattle.ed_group.specs.Seen.{stock as seen}
use Rattle.ed_stock.specs.Stock.{Stock}
use Rattle.ed_stock.specs.Making.{elide_set}
use Rattle.ed_group.specs.Answers.{hidden_fault}
use Rattle.ed_machine.specs.State.{State}
use Rattle.ed_core.proofs.Keeping.{keeps-elide_set}
use Rattle.ed_core.proofs.Settling.{landed-within, landed-count, landed-reply}
use Rattle.ed_core.proofs.state.Core.set_hidden.Goals as goal

pub invariant_of-self : goal.invariant_of-self
invariant_of-self c = (
  c.self.invariant.0 ∙ landed-count _ c.args.self.now c.self.view_is c.self.invariant.1 (λ (u : State). elide_set u.stock c.args.buffer c.args.hide.now c.args.show.now) (λ (u : State). hidden_fault u.stock c.args.buffer c.args.hide.now c.args.show.now)
      _ c.plan_hidden-planned.result (keeps-elide_set _ c.args.buffer c.args.hide.now c.args.show.now) (λ e. e) _ c.plan_hidden-planned.ensures.same c.plan_hidden-planned.ensures.fault c.plan_hidden-planned.ensures.versions c.plan_hidden-planned.ensures.outcome c.land.ensures.made c.land.ensures.same,
  landed-within _ c.args.self.now c.self.view_is c.self.invariant.1 (λ (u : State). elide_set u.stock c.args.buffer c.args.hide.now c.args.show.now) (λ (u : State). hidden_fault u.stock c.args.buffer c.args.hide.now c.args.show.now)
      _ c.plan_hidden-planned.result (keeps-elide_set _ c.args.buffer c.args.hide.now c.args.show.now) (λ e. e) _ c.plan_hidden-planned.ensures.same c.plan_hidden-planned.ensures.fault c.plan_hidden-planned.ensures.versions c.plan_hidden-planned.ensures.outcome c.land.ensures.made c.land.ensures.same,
)

pub returns-clause-reply : goal.returns-clause-reply
returns-clause-reply c =
    landed-reply _ c.args.self.now c.self.view_is c.self.invariant.1 (λ (u : State). elide_set u.stock c.args.buffer c.args.hide.now c.args.show.now) (λ (u : State). hidden_fault u.stock c.args.buffer c.args.hide.now c.args.show.now)
    _ c.plan_hidden-planned.result (keeps-elide_set _ c.args.buffer c.args.hide.now c.args.show.now) (λ e. e) _ c.plan_hidden-planned.ensures.same c.plan_hidden-planned.ensures.fault c.plan_hidden-planned.ensures.versions c.plan_hidden-planned.ensures.outcome c.land.ensures.made c.land.ensures.same c.land.result c.land.ensures.reply

pub returns-clause-stay : goal.returns-clause-stay
returns-clause-stay c = subst (λ (s : Stock). RecordsStay s (seen c.land.new.stock)) (c.plan_hidden-planned.ensures.same ∙ ap (λ (u : State). u.stock) c.self.view_is) c.land.ensures.stay
