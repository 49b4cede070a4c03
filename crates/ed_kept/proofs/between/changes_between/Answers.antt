use Rattle.std.proofs.Common.{◌≡◌, ◌+◌, ◌≤◌, ◌++◌, length, get_or, drop, ap, ◌∙◌, arith}
use Rattle.ed_base.specs.ChangeList.{change, component, new_len, step}
use Rattle.ed_kept.specs.declared.kept.KeptRun.{KeptRun}
use Rattle.ed_kept.specs.Kept.{kept_run, pairs_of}
use Rattle.ed_kept.proofs.Components.{GapPut, all_put, gap_put, listed, listed_fits, listed_is, listed_len, listed_normal, listed_step, no_runs, runs_at}
use Rattle.ed_kept.proofs.Rising.{Behind, rising_within, run_behind}
use Rattle.ed_kept.proofs.between.changes_between.Goals as goal
use Rattle.ed_kept.proofs.between.changes_between.Goals.{Else-run-eq0, In_ok-put_gap-2, In_ok-list}

behind : (c : Else-run-eq0) → let r = get_or c.args.runs.now c.loop-run.run-index (kept_run 0 0 0) in Behind c.loop-run.old c.loop-run.new c.args.old_len (length c.args.text.now) r.old r.new r.len (pairs_of (drop (c.loop-run.run-index + 1) c.args.runs.now))
behind c =
    run_behind c.loop-run.old c.loop-run.new c.args.old_len (length c.args.text.now) (get_or c.args.runs.now c.loop-run.run-index (kept_run 0 0 0)) (drop (c.loop-run.run-index + 1) c.args.runs.now) (drop c.loop-run.run-index c.args.runs.now)
    (runs_at c.args.runs.now c.loop-run.run-index (kept_run 0 0 0) c.loop-run-test.true) (omega (arith, c.if-run-eq0.false)) c.loop-run.invariant.rising

within : (c : Else-run-eq0) → let r = get_or c.args.runs.now c.loop-run.run-index (kept_run 0 0 0) in (r.old + r.len ≤ c.args.old_len) × (r.new + r.len ≤ length c.args.text.now)
within c =
    let r : KeptRun = get_or c.args.runs.now c.loop-run.run-index (kept_run 0 0 0) in
    rising_within (r.old + r.len) (r.new + r.len) c.args.old_len (length c.args.text.now) (pairs_of (drop (c.loop-run.run-index + 1) c.args.runs.now)) (behind c).rest

pub put_gap-requires-clause-old : goal.put_gap-requires-clause-old
put_gap-requires-clause-old c = (behind (goal.at.put_gap-requires-clause-old c).Else-run-eq0).old

pub put_gap-requires-clause-new : goal.put_gap-requires-clause-new
put_gap-requires-clause-new c = (behind (goal.at.put_gap-requires-clause-new c).Else-run-eq0).new

pub put_gap-requires-clause-within : goal.put_gap-requires-clause-within
put_gap-requires-clause-within c = omega (arith, (within (goal.at.put_gap-requires-clause-within c).Else-run-eq0).1)

pub overflow_add-old : goal.overflow_add-old
overflow_add-old c = omega (arith, (within (goal.at.overflow_add-old c).Else-run-eq0).0, c.ranges.old_len.fits)

pub overflow_add-new : goal.overflow_add-new
overflow_add-new c = omega (arith, (within (goal.at.overflow_add-new c).Else-run-eq0).1, c.len-new_len.ensures.value, c.len-new_len.ensures.most)

pub loop-run-preserved : goal.loop-run-preserved
loop-run-preserved c =
    let put : GapPut c.args.old_len c.args.text.now c.args.runs.now (drop (c.loop-run.run-index + 1) c.args.runs.now) _ _ c.put_gap.new.changes.items =
    gap_put c.args.old_len c.args.text.now c.args.runs.now (drop (c.loop-run.run-index + 1) c.args.runs.now) (drop c.loop-run.run-index c.args.runs.now) (get_or c.args.runs.now c.loop-run.run-index (kept_run 0 0 0)) c.loop-run.old c.loop-run.new c.loop-run.changes.items c.put_gap.new.changes.items
    (runs_at c.args.runs.now c.loop-run.run-index (kept_run 0 0 0) c.loop-run-test.true) (omega (arith, c.if-run-eq0.false)) c.loop-run.invariant.rising c.loop-run.invariant.changes c.in_ok-put_gap.ensures in
    record { rising = put.rising; changes = put.changes }

all : (c : In_ok-put_gap-2) → c.put_gap-2.new.changes.items ≡ (listed c.args.old_len c.args.text.now (pairs_of c.args.runs.now)).changes
all c =
    all_put c.args.old_len c.args.text.now c.args.runs.now (drop c.loop-run.run-index c.args.runs.now) c.loop-run.old c.loop-run.new c.loop-run.changes.items c.put_gap-2.new.changes.items
    (no_runs c.args.runs.now c.loop-run.run-index c.loop-run-test.false) c.loop-run.invariant.changes
    (c.in_ok-put_gap-2.ensures ∙ ap (λ m. c.loop-run.changes.items ++ component change c.args.text.now c.loop-run.old c.loop-run.new c.args.old_len m) c.len-new_len.ensures.value)

pub of-requires-clause-normal : goal.of-requires-clause-normal
of-requires-clause-normal c = listed_normal c.args.old_len c.args.text.now (pairs_of c.args.runs.now) c.put_gap-2.new.changes.items c.requires (all c)

pub of-requires-clause-fits : goal.of-requires-clause-fits
of-requires-clause-fits c = omega (arith, listed_fits c.args.old_len c.args.text.now (pairs_of c.args.runs.now) c.put_gap-2.new.changes.items c.requires (all c), c.len-new_len.ensures.value, c.len-new_len.ensures.most)

made : (c : In_ok-list) → c.in_ok-list.list ≡ listed c.args.old_len c.args.text.now (pairs_of c.args.runs.now)
made c = c.in_ok-list.ensures ∙ listed_is c.args.old_len c.args.text.now (pairs_of c.args.runs.now) c.put_gap-2.new.changes.items (all (goal.at.returns-clause-step c).In_ok-put_gap-2)

pub returns-clause-step : goal.returns-clause-step
returns-clause-step c = ap step (made c) ∙ listed_step c.args.old_len c.args.text.now (pairs_of c.args.runs.now) c.requires

pub returns-clause-len : goal.returns-clause-len
returns-clause-len c = ap new_len (made c) ∙ listed_len c.args.old_len c.args.text.now (pairs_of c.args.runs.now) c.requires
