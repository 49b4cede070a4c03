use Rattle.std.proofs.Common.{◌≡◌, ◌+◌, ◌<◌, drop, length, get_or, map, reverse, ap, ◌∙◌, arith}
use Rattle.std.proofs.lemmas.Iterator.Adapters.{YieldsList-from_rev_slice}
use Rattle.std.proofs.lemmas.Iterator.Consumers.{YieldsList-turn, YieldsList-end}
use Rattle.std.proofs.lemmas.List.{length_push}
use Rattle.ed_base.specs.Spans.{end_of}
use Rattle.ed_base.specs.Tracking.{through, custom_span}
use Rattle.ed_track.specs.declared.edge.Way.{Way}
use Rattle.ed_track.proofs.Passing.{passed_start, passed_next, passed_at, passed_all, back_on, back_first, back_steps}
use Rattle.ed_core.proofs.tracking.back_custom_through.Goals as goal

pub loop-changes-init : goal.loop-changes-init
loop-changes-init g c =
    passed_start Way.Back (custom_span c.args.custom.now.rule) end_of c.args.s (reverse c.args.steps.now) (back_on c.args.steps.now c.requires.linked)
    (rw (back_first _ c.args.steps.now) c.requires.within)

-- the step of this turn is the next of the reversed list
pub moved_back-place-requires : goal.moved_back-place-requires
moved_back-place-requires g c =
    let turn : (length c.loop-changes.yielded < length (reverse c.args.steps.now)) × (c.in-Some.changes.now ≡ get_or (reverse c.args.steps.now) (length c.loop-changes.yielded) c.in-Some.changes.now) = YieldsList-turn (YieldsList-from_rev_slice c.args.steps.now (cc)) c.loop-changes.yielded _ c.loop-changes.yielded_by _ _ c.in-Some.changes c.in-Some.is c.next.ensures.steps in
    (passed_at Way.Back (custom_span c.args.custom.now.rule) end_of c.args.s (reverse c.args.steps.now) c.loop-changes.place (length c.loop-changes.yielded) c.in-Some.changes.now turn.0 turn.1 c.loop-changes.invariant).within

pub loop-changes-preserved : goal.loop-changes-preserved
loop-changes-preserved g c =
    let turn : (length c.loop-changes.yielded < length (reverse c.args.steps.now)) × (c.in-Some.changes.now ≡ get_or (reverse c.args.steps.now) (length c.loop-changes.yielded) c.in-Some.changes.now) = YieldsList-turn (YieldsList-from_rev_slice c.args.steps.now (cc)) c.loop-changes.yielded _ c.loop-changes.yielded_by _ _ c.in-Some.changes c.in-Some.is c.next.ensures.steps in
    rw (length_push c.loop-changes.yielded c.in-Some.changes)
    (passed_next Way.Back (custom_span c.args.custom.now.rule) end_of c.args.s (reverse c.args.steps.now) c.loop-changes.place c.moved_back-place.result c.in-Some.changes.now (drop (length c.loop-changes.yielded + 1) (reverse c.args.steps.now))
    (passed_at Way.Back (custom_span c.args.custom.now.rule) end_of c.args.s (reverse c.args.steps.now) c.loop-changes.place (length c.loop-changes.yielded) c.in-Some.changes.now turn.0 turn.1 c.loop-changes.invariant) c.moved_back-place.ensures.tracked c.moved_back-place.ensures.within)

pub returns : goal.returns
returns g c =
    let end : (map (λ y. y.now) c.loop-changes.yielded ≡ reverse c.args.steps.now) × (length c.loop-changes.yielded ≡ length (reverse c.args.steps.now)) =
    YieldsList-end (YieldsList-from_rev_slice c.args.steps.now (cc)) c.loop-changes.yielded _ c.loop-changes.yielded_by _ _ c.in-None.is c.next.ensures.steps in
    (passed_all Way.Back (custom_span c.args.custom.now.rule) end_of c.args.s (reverse c.args.steps.now) c.loop-changes.place (length c.loop-changes.yielded) (omega (arith, end.1)) c.loop-changes.invariant).moved ∙ ap (through (custom_span c.args.custom.now.rule) c.args.s) (back_steps c.args.steps.now)
