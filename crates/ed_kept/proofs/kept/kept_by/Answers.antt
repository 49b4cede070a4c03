-- The runs so far and those of the changes left are all.
use Rattle.std.proofs.Common.{◌≡◌, ◌+◌, ◌-◌, ◌≤◌, ◌∷◌, ◌∙◌, length, drop, ap, sym, arith}
use Rattle.ed_base.specs.ChangeList.{new_len}
use Rattle.ed_kept.specs.Kept.{pairs_of, runs_of}
use Rattle.ed_kept.proofs.RunLemmas.{Passed, all_runs_rise, passed_all, passed_at, passed_fits, passed_more, passed_none, step_kept}
use Rattle.ed_kept.proofs.kept.kept_by.Goals as goal
use Rattle.ed_kept.proofs.kept.kept_by.Goals.{After-change-item, In_ok-push-2}

pub loop-change-init : goal.loop-change-init
loop-change-init c = rw (c.new-runs.ensures.items, c.as_slice-list.ensures.changes) (passed_none c.args.changes.now c.as_slice-list.ensures.normal)

left : (c : After-change-item) → Passed c.args.changes.now c.loop-change.old c.loop-change.new c.loop-change.runs.items (c.change-item.result ∷ drop (c.loop-change.change-index + 1) c.as_slice-list.result.now)
left c = passed_at c.args.changes.now c.loop-change.old c.loop-change.new c.loop-change.change-index c.loop-change.runs.items c.as_slice-list.result.now c.change-item.result c.loop-change-test.true c.change-item.is c.loop-change.invariant

fits : (c : After-change-item) → (c.loop-change.old ≤ c.change-item.result.start) × ((c.change-item.result.start + c.change-item.result.old_len ≤ c.args.changes.now.old_len) × (c.loop-change.new + (c.change-item.result.start - c.loop-change.old) + length c.change-item.result.text ≤ new_len c.args.changes.now))
fits c = passed_fits c.args.changes.now c.loop-change.old c.loop-change.new c.loop-change.runs.items c.change-item.result (drop (c.loop-change.change-index + 1) c.as_slice-list.result.now) (left c)

pub overflow_add-new : goal.overflow_add-new
overflow_add-new c = omega (arith, (fits (goal.at.overflow_add-new c).After-change-item).1.1, c.as_slice-list.ensures.normal.fits)

pub overflow_cast-new : goal.overflow_cast-new
overflow_cast-new c = omega (arith, (fits (goal.at.overflow_cast-new c).After-change-item).1.1, c.as_slice-list.ensures.normal.fits, ap length c.as_slice.ensures)

pub overflow_add-new-in-loop-change : goal.overflow_add-new-in-loop-change
overflow_add-new-in-loop-change c = omega (arith, (fits (goal.at.overflow_add-new-in-loop-change c).After-change-item).1.1, c.as_slice-list.ensures.normal.fits, ap length c.as_slice.ensures)

pub loop-change-preserved : goal.loop-change-preserved
loop-change-preserved c =
    rw (c.in_ok-push.ensures.items, c.as_slice.ensures)
    (passed_more c.args.changes.now c.loop-change.old c.loop-change.new c.loop-change.runs.items c.change-item.result (drop (c.loop-change.change-index + 1) c.as_slice-list.result.now) (left (goal.at.loop-change-preserved c).After-change-item))

all : (c : In_ok-push-2) → c.push-2.new.self.items ≡ runs_of c.args.changes.now
all c = rw (c.in_ok-push-2.ensures.items, c.old_len-old_len.ensures) (passed_all c.args.changes.now c.loop-change.old c.loop-change.new c.loop-change.change-index c.loop-change.runs.items c.as_slice-list.result.now c.loop-change-test.false c.loop-change.invariant)

pub returns-clause-runs : goal.returns-clause-runs
returns-clause-runs c = all c

pub returns-clause-kept : goal.returns-clause-kept
returns-clause-kept c = ap pairs_of (all c) ∙ sym (step_kept c.args.changes.now c.as_slice-list.ensures.normal)

pub returns-clause-rising : goal.returns-clause-rising
returns-clause-rising c = rw (all c) (all_runs_rise c.args.changes.now c.as_slice-list.ensures.normal)
