use Rattle.std.proofs.Common.{◌+◌, ◌∷◌, [], drop, ap, ◌∙◌, arith}
use Rattle.ed_base.specs.Spans.{end_of}
use Rattle.ed_base.specs.Tracking.{through, tracked_span}
use Rattle.ed_track.specs.declared.edge.Way.{Way}
use Rattle.ed_track.proofs.Passing.{Passed, passed_start, passed_next, passed_at, passed_all, forward_on, forward_first, forward_last, forward_steps}
use Rattle.ed_track.proofs.through.span_through.Goals as goal
use Rattle.ed_track.proofs.through.span_through.Goals.{After-changes-item, After-loop-changes}

pub loop-changes-init : goal.loop-changes-init
loop-changes-init c =
    passed_start Way.Forward (tracked_span c.args.mode) end_of c.args.s c.args.steps.now (forward_on c.args.steps.now c.requires.linked)
    (rw (forward_first _ c.args.steps.now) c.requires.within)

-- what is left begins with the step of this turn
left : (c : After-changes-item) → Passed Way.Forward (tracked_span c.args.mode) end_of c.args.s c.args.steps.now c.loop-changes.place (c.changes-item.result ∷ drop (c.loop-changes.changes-index + 1) c.args.steps.now)
left c = passed_at Way.Forward (tracked_span c.args.mode) end_of c.args.s c.args.steps.now c.loop-changes.place c.loop-changes.changes-index c.changes-item.result c.loop-changes-test.true c.changes-item.is c.loop-changes.invariant

pub span-place-requires : goal.span-place-requires
span-place-requires c = (left (goal.at.span-place-requires c).After-changes-item).within

pub loop-changes-preserved : goal.loop-changes-preserved
loop-changes-preserved c =
    passed_next Way.Forward (tracked_span c.args.mode) end_of c.args.s c.args.steps.now c.loop-changes.place c.span-place.result c.changes-item.result (drop (c.loop-changes.changes-index + 1) c.args.steps.now)
    (left (goal.at.loop-changes-preserved c).After-changes-item) c.span-place.ensures.tracked c.span-place.ensures.within

done : (c : After-loop-changes) → Passed Way.Forward (tracked_span c.args.mode) end_of c.args.s c.args.steps.now c.loop-changes.place []
done c = passed_all Way.Forward (tracked_span c.args.mode) end_of c.args.s c.args.steps.now c.loop-changes.place c.loop-changes.changes-index c.loop-changes-test.false c.loop-changes.invariant

pub returns-clause-tracked : goal.returns-clause-tracked
returns-clause-tracked c = (done c).moved ∙ ap (through (tracked_span c.args.mode) c.args.s) (forward_steps c.args.steps.now)

pub returns-clause-within : goal.returns-clause-within
returns-clause-within c = omega (arith, (done c).after, forward_last (end_of c.args.s) c.args.steps.now)
