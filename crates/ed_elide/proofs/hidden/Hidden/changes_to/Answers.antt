-- What is found is the step, and the carrier's.
use Rattle.std.proofs.Common.{◌≡◌, length, refl, sym, ap, ◌∙◌}
use Rattle.ed_base.specs.ChangeList.{change_list, step}
use Rattle.ed_kept.specs.Kept.{kept_step}
use Rattle.ed_kept.proofs.RunLemmas.{step_len, step_rising}
use Rattle.ed_layers.specs.Hidden.{nearest}
use Rattle.ed_elide.specs.AfterStep.{shown_step}
use Rattle.ed_elide.proofs.CarrierPairs.{steps_shown}
use Rattle.ed_elide.proofs.hidden.Hidden.changes_to.Goals as goal
use Rattle.ed_elide.proofs.hidden.Hidden.changes_to.Goals.{In_ok-changes}

is_step : (c : In_ok-changes) → kept_step c.shown_len.result (length c.args.text.now) c.deref.result.now ≡ shown_step c.args.self.now c.args.next.now (step c.args.source_step.now)
is_step c =
    let olds : c.shown_len.result ≡ nearest c.args.self.now c.args.source_step.now.old_len = c.shown_len.ensures ∙ ap (nearest c.args.self.now) (sym c.requires.old) in
    let news : length c.args.text.now ≡ nearest c.args.next.now (step c.args.source_step.now).new_len = c.requires.text ∙ ap (nearest c.args.next.now) (sym (step_len c.args.source_step.now c.in_ok-kept.ensures.normal ∙ c.requires.new)) in
    rw (c.deref.ensures.value, c.in_ok-kept.ensures.pairs, olds, news) refl

pub returns-clause-changes : goal.returns-clause-changes
returns-clause-changes c = c.in_ok-changes.ensures.changes ∙ ap (λ s. change_list s c.args.text.now) (is_step (goal.at.returns-clause-changes c).In_ok-changes)

pub returns-clause-step : goal.returns-clause-step
returns-clause-step c = c.in_ok-changes.ensures.step ∙ is_step (goal.at.returns-clause-step c).In_ok-changes

pub returns-clause-carrier : goal.returns-clause-carrier
returns-clause-carrier c b v w steps is =
    steps_shown c.args.self.now c.args.next.now b v w steps c.args.source_step.now c.in_ok-kept.ensures.normal c.requires.old c.requires.new (rw (← c.requires.old, ← c.requires.new) (step_rising c.args.source_step.now c.in_ok-kept.ensures.normal)) is
