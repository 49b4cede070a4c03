use Rattle.std.proofs.Common.{◌≡◌, ◌+◌, ◌<◌, ◌∷◌, [], drop, length, get_or, map, reverse, ap, ◌∙◌, arith}
use Rattle.std.proofs.lemmas.Iterator.Adapters.{YieldsList-from_rev_slice}
use Rattle.std.proofs.lemmas.Iterator.Consumers.{YieldsList-turn, YieldsList-end}
use Rattle.std.proofs.lemmas.List.{length_push}
use Rattle.ed_base.specs.Tracking.{through, tracked_point}
use Rattle.ed_track.specs.declared.edge.Way.{Way}
use Rattle.ed_track.proofs.Passing.{Passed, passed_start, passed_next, passed_at, passed_all, back_on, back_first, back_last, back_steps}
use Rattle.ed_track.proofs.through.back_point_through.Goals as goal
use Rattle.ed_track.proofs.through.back_point_through.Goals.{In-Some, In-None}

pub loop-changes-init : goal.loop-changes-init
loop-changes-init c =
    passed_start Way.Back (tracked_point c.args.mode) (λ p. p) c.args.p (reverse c.args.steps.now) (back_on c.args.steps.now c.requires.linked)
    (rw (back_first _ c.args.steps.now) c.requires.within)

-- the step of this turn is the next of the reversed list
turn : (c : In-Some) → (length c.loop-changes.yielded < length (reverse c.args.steps.now)) × (c.in-Some.changes.now ≡ get_or (reverse c.args.steps.now) (length c.loop-changes.yielded) c.in-Some.changes.now)
turn c = YieldsList-turn (YieldsList-from_rev_slice c.args.steps.now (cc)) c.loop-changes.yielded _ c.loop-changes.yielded_by _ _ c.in-Some.changes c.in-Some.is c.next.ensures.steps

left : (c : In-Some) → Passed Way.Back (tracked_point c.args.mode) (λ p. p) c.args.p (reverse c.args.steps.now) c.loop-changes.place (c.in-Some.changes.now ∷ drop (length c.loop-changes.yielded + 1) (reverse c.args.steps.now))
left c = passed_at Way.Back (tracked_point c.args.mode) (λ p. p) c.args.p (reverse c.args.steps.now) c.loop-changes.place (length c.loop-changes.yielded) c.in-Some.changes.now (turn c).0 (turn c).1 c.loop-changes.invariant

pub back_point-place-requires : goal.back_point-place-requires
back_point-place-requires c = (left c).within

pub loop-changes-preserved : goal.loop-changes-preserved
loop-changes-preserved c =
    rw (length_push c.loop-changes.yielded c.in-Some.changes)
    (passed_next Way.Back (tracked_point c.args.mode) (λ p. p) c.args.p (reverse c.args.steps.now) c.loop-changes.place c.back_point-place.result c.in-Some.changes.now (drop (length c.loop-changes.yielded + 1) (reverse c.args.steps.now))
    (left (goal.at.loop-changes-preserved c).In-Some) c.back_point-place.ensures.tracked c.back_point-place.ensures.within)

done : (c : In-None) → Passed Way.Back (tracked_point c.args.mode) (λ p. p) c.args.p (reverse c.args.steps.now) c.loop-changes.place []
done c =
    let end : (map (λ y. y.now) c.loop-changes.yielded ≡ reverse c.args.steps.now) × (length c.loop-changes.yielded ≡ length (reverse c.args.steps.now)) =
    YieldsList-end (YieldsList-from_rev_slice c.args.steps.now (cc)) c.loop-changes.yielded _ c.loop-changes.yielded_by _ _ c.in-None.is c.next.ensures.steps in
    passed_all Way.Back (tracked_point c.args.mode) (λ p. p) c.args.p (reverse c.args.steps.now) c.loop-changes.place (length c.loop-changes.yielded) (omega (arith, end.1)) c.loop-changes.invariant

pub returns-clause-tracked : goal.returns-clause-tracked
returns-clause-tracked c = (done c).moved ∙ ap (through (tracked_point c.args.mode) c.args.p) (back_steps c.args.steps.now)

pub returns-clause-within : goal.returns-clause-within
returns-clause-within c = omega (arith, (done c).after, back_last c.args.p c.args.steps.now)
