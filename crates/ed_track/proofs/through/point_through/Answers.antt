use Rattle.std.proofs.Common.{◌+◌, ◌∷◌, [], drop, ap, ◌∙◌, arith}
use Rattle.ed_base.specs.Tracking.{through, tracked_point}
use Rattle.ed_track.specs.declared.edge.Way.{Way}
use Rattle.ed_track.proofs.Passing.{Passed, passed_start, passed_next, passed_at, passed_all, forward_on, forward_first, forward_last, forward_steps}
use Rattle.ed_track.proofs.through.point_through.Goals as goal
use Rattle.ed_track.proofs.through.point_through.Goals.{After-changes-item, After-loop-changes}

pub loop-changes-init : goal.loop-changes-init
loop-changes-init c =
    passed_start Way.Forward (tracked_point c.args.mode) (λ p. p) c.args.p c.args.steps.now (forward_on c.args.steps.now c.requires.linked)
    (rw (forward_first _ c.args.steps.now) c.requires.within)

-- what is left begins with the step of this turn
left : (c : After-changes-item) → Passed Way.Forward (tracked_point c.args.mode) (λ p. p) c.args.p c.args.steps.now c.loop-changes.place (c.changes-item.result ∷ drop (c.loop-changes.changes-index + 1) c.args.steps.now)
left c = passed_at Way.Forward (tracked_point c.args.mode) (λ p. p) c.args.p c.args.steps.now c.loop-changes.place c.loop-changes.changes-index c.changes-item.result c.loop-changes-test.true c.changes-item.is c.loop-changes.invariant

pub point-place-requires : goal.point-place-requires
point-place-requires c = (left (goal.at.point-place-requires c).After-changes-item).within

pub loop-changes-preserved : goal.loop-changes-preserved
loop-changes-preserved c =
    passed_next Way.Forward (tracked_point c.args.mode) (λ p. p) c.args.p c.args.steps.now c.loop-changes.place c.point-place.result c.changes-item.result (drop (c.loop-changes.changes-index + 1) c.args.steps.now)
    (left (goal.at.loop-changes-preserved c).After-changes-item) c.point-place.ensures.tracked c.point-place.ensures.within

done : (c : After-loop-changes) → Passed Way.Forward (tracked_point c.args.mode) (λ p. p) c.args.p c.args.steps.now c.loop-changes.place []
done c = passed_all Way.Forward (tracked_point c.args.mode) (λ p. p) c.args.p c.args.steps.now c.loop-changes.place c.loop-changes.changes-index c.loop-changes-test.false c.loop-changes.invariant

pub returns-clause-tracked : goal.returns-clause-tracked
returns-clause-tracked c = (done c).moved ∙ ap (through (tracked_point c.args.mode) c.args.p) (forward_steps c.args.steps.now)

pub returns-clause-within : goal.returns-clause-within
returns-clause-within c = omega (arith, (done c).after, forward_last c.args.p c.args.steps.now)
