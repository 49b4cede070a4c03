use Rattle.std.proofs.Common.{ap, sym, ◌∙◌}
use Rattle.ed_base.specs.ChangeList.{change_list}
use Rattle.ed_layers.specs.CarrierStep.{all_stay, carrier_step}
use Rattle.ed_layers.specs.Records.{elision}
use Rattle.ed_elide.proofs.hidden.Hidden.changes.Goals as goal

pub returns-clause-changes : goal.returns-clause-changes
returns-clause-changes c b v w steps is = c.in_ok-changes.ensures.changes ∙ ap (λ s. change_list s c.in_ok-text.text) (sym (c.in_ok-changes.ensures.carrier b v w steps is)) ∙ ap (change_list (carrier_step all_stay steps (elision c.args.self.now b v) (elision c.args.next.now b w))) (c.in_ok-text.ensures.text b w)

pub returns-clause-step : goal.returns-clause-step
returns-clause-step c b v w steps is = c.in_ok-changes.ensures.step ∙ sym (c.in_ok-changes.ensures.carrier b v w steps is)
