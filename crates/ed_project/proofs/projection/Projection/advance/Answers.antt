use Rattle.std.proofs.Common.{sym, subst}
use Rattle.ed_members.specs.Moving.{OwnInside, OwnInOrder}
use Rattle.ed_members.specs.Steps.{steps_seen}
use Rattle.ed_project.specs.declared.shown.Shown.{Shown}
use Rattle.ed_project.specs.Records.{shown_now}
use Rattle.ed_project.proofs.projection.Projection.advance.Goals as goal

pub advanced-requires-clause-inside : goal.advanced-requires-clause-inside
advanced-requires-clause-inside g c =
    subst (λ (s : Shown). OwnInside c.buffer.result (steps_seen c.args.steps.now) s.members) (sym c.newest.ensures.shown)
    (subst (λ b. OwnInside b (steps_seen c.args.steps.now) (shown_now c.args.self.now).members) (sym c.buffer.ensures) c.requires.inside)

pub advanced-requires-clause-order : goal.advanced-requires-clause-order
advanced-requires-clause-order g c =
    subst (λ (s : Shown). OwnInOrder c.buffer.result (steps_seen c.args.steps.now) s.members) (sym c.newest.ensures.shown)
    (subst (λ b. OwnInOrder b (steps_seen c.args.steps.now) (shown_now c.args.self.now).members) (sym c.buffer.ensures) c.requires.order)
