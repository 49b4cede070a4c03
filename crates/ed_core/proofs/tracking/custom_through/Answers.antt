use Rattle.std.proofs.Common.{◌+◌, drop, ap, ◌∙◌}
use Rattle.ed_base.specs.Spans.{end_of}
use Rattle.ed_base.specs.Tracking.{through, custom_span}
use Rattle.ed_track.specs.declared.edge.Way.{Way}
use Rattle.ed_track.proofs.Passing.{passed_start, passed_next, passed_at, passed_all, forward_on, forward_first, forward_steps}
use Rattle.ed_core.proofs.tracking.custom_through.Goals as goal

pub loop-changes-init : goal.loop-changes-init
loop-changes-init g c =
    passed_start Way.Forward (custom_span c.args.custom.now.rule) end_of c.args.s c.args.steps.now (forward_on c.args.steps.now c.requires.linked)
    (rw (forward_first _ c.args.steps.now) c.requires.within)

-- what is left begins with the step of this turn
pub moved-place-requires : goal.moved-place-requires
moved-place-requires g c = (passed_at Way.Forward (custom_span c.args.custom.now.rule) end_of c.args.s c.args.steps.now c.loop-changes.place c.loop-changes.changes-index c.changes-item.result c.loop-changes-test.true c.changes-item.is c.loop-changes.invariant).within

pub loop-changes-preserved : goal.loop-changes-preserved
loop-changes-preserved g c =
    passed_next Way.Forward (custom_span c.args.custom.now.rule) end_of c.args.s c.args.steps.now c.loop-changes.place c.moved-place.result c.changes-item.result (drop (c.loop-changes.changes-index + 1) c.args.steps.now)
    (passed_at Way.Forward (custom_span c.args.custom.now.rule) end_of c.args.s c.args.steps.now c.loop-changes.place c.loop-changes.changes-index c.changes-item.result c.loop-changes-test.true c.changes-item.is c.loop-changes.invariant) c.moved-place.ensures.tracked c.moved-place.ensures.within

pub returns : goal.returns
returns g c = (passed_all Way.Forward (custom_span c.args.custom.now.rule) end_of c.args.s c.args.steps.now c.loop-changes.place c.loop-changes.changes-index c.loop-changes-test.false c.loop-changes.invariant).moved ∙ ap (through (custom_span c.args.custom.now.rule) c.args.s) (forward_steps c.args.steps.now)
