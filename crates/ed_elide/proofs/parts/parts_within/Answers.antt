-- Each turn finds the part of a run in a span, and is done with the one of the two that ends first.
use Rattle.std.proofs.Common.{ℕ, List, ◌+◌, ◌-◌, ◌∷◌, ◌≤◌, ◌^◌, drop, slice_index_or, arith}
use Rattle.ed_base.specs.declared.edit.Span.{Span}
use Rattle.ed_kept.specs.declared.kept.KeptRun.{KeptRun}
use Rattle.ed_kept.specs.Kept.{pairs_of, kept_run}
use Rattle.ed_elide.specs.Pairs.{placed_in}
use Rattle.ed_elide.proofs.PartLemmas.{Walking, run_fits, walk_at, walk_back, walk_empty, walk_kept, walk_no_runs, walk_no_spans, walk_run, walk_span}
use Rattle.ed_elide.proofs.parts.parts_within.Goals as goal
use Rattle.ed_elide.proofs.parts.parts_within.Goals.{Else-run-eq0, then-loop-at-test+else-next-spans, else-loop-at-test}

abbrev no_span : Span
no_span = record { start = 0; len = 0 }

abbrev no_run : KeptRun
no_run = kept_run 0 0 0

-- the run and the span of this turn, before those that are left
here : (c : Else-run-eq0) → Walking (placed_in 0 c.args.spans.now (pairs_of c.args.runs.now)) c.loop-at.from (slice_index_or c.args.spans.now c.loop-at.next no_span ∷ drop (c.loop-at.next + 1) c.args.spans.now) (slice_index_or c.args.runs.now c.loop-at.at no_run ∷ drop (c.loop-at.at + 1) c.args.runs.now) c.loop-at.list.items
here c = walk_at (placed_in 0 c.args.spans.now (pairs_of c.args.runs.now)) c.loop-at.from c.loop-at.at c.loop-at.next c.args.spans.now c.args.runs.now c.loop-at.list.items no_span no_run c.loop-at-test.true c.if-next-spans.true c.loop-at.invariant

fits : (c : Else-run-eq0) → ((slice_index_or c.args.runs.now c.loop-at.at no_run).old + (slice_index_or c.args.runs.now c.loop-at.at no_run).len ≤ 2 ^ 32 - 1) × ((slice_index_or c.args.runs.now c.loop-at.at no_run).new + (slice_index_or c.args.runs.now c.loop-at.at no_run).len ≤ 2 ^ 32 - 1)
fits c =
    run_fits (placed_in 0 c.args.spans.now (pairs_of c.args.runs.now)) c.loop-at.from (slice_index_or c.args.spans.now c.loop-at.next no_span) (drop (c.loop-at.next + 1) c.args.spans.now) (slice_index_or c.args.runs.now c.loop-at.at no_run) (drop (c.loop-at.at + 1) c.args.runs.now)
    c.loop-at.list.items c.loop-at.list.items (here c) (omega (arith, c.if-run-eq0.false))

pub put_part-requires-clause-run_old : goal.put_part-requires-clause-run_old
put_part-requires-clause-run_old c = omega (arith, (fits (goal.at.put_part-requires-clause-run_old c).Else-run-eq0).0)

pub put_part-requires-clause-run_new : goal.put_part-requires-clause-run_new
put_part-requires-clause-run_new c = omega (arith, (fits (goal.at.put_part-requires-clause-run_new c).Else-run-eq0).1)

pub overflow_add-run : goal.overflow_add-run
overflow_add-run c = omega (arith, (fits (goal.at.overflow_add-run c).Else-run-eq0).0)

pub loop-at-preserved-then-run-eq0 : goal.loop-at-preserved-then-run-eq0
loop-at-preserved-then-run-eq0 c =
    let whole : List (ℕ × ℕ) = placed_in 0 c.args.spans.now (pairs_of c.args.runs.now) in
    let r : KeptRun = slice_index_or c.args.runs.now c.loop-at.at no_run in
    let s : Span = slice_index_or c.args.spans.now c.loop-at.next no_span in
    walk_back whole c.loop-at.from c.loop-at.next c.args.spans.now (drop (c.loop-at.at + 1) c.args.runs.now) c.loop-at.list.items no_span c.if-next-spans.true
    (walk_empty whole c.loop-at.from s (drop (c.loop-at.next + 1) c.args.spans.now) r (drop (c.loop-at.at + 1) c.args.runs.now) c.loop-at.list.items c.loop-at.list.items
    (walk_at whole c.loop-at.from c.loop-at.at c.loop-at.next c.args.spans.now c.args.runs.now c.loop-at.list.items no_span no_run c.loop-at-test.true c.if-next-spans.true c.loop-at.invariant) c.if-run-eq0.true)

pub loop-at-preserved-then-span-run : goal.loop-at-preserved-then-span-run
loop-at-preserved-then-span-run c =
    let d : Else-run-eq0 = (goal.at.loop-at-preserved-then-span-run c).Else-run-eq0 in
    let whole : List (ℕ × ℕ) = placed_in 0 c.args.spans.now (pairs_of c.args.runs.now) in
    let r : KeptRun = slice_index_or c.args.runs.now c.loop-at.at no_run in
    let s : Span = slice_index_or c.args.spans.now c.loop-at.next no_span in
    walk_kept whole (c.loop-at.from + s.len) c.loop-at.at (drop (c.loop-at.next + 1) c.args.spans.now) c.args.runs.now c.put_part.new.list.items no_run c.loop-at-test.true
    (walk_span whole c.loop-at.from s (drop (c.loop-at.next + 1) c.args.spans.now) r (drop (c.loop-at.at + 1) c.args.runs.now) c.loop-at.list.items c.put_part.new.list.items (here d) (omega (arith, c.if-run-eq0.false)) c.if-span-run.true c.in_ok-put_part.ensures)

pub loop-at-preserved : goal.loop-at-preserved
loop-at-preserved c =
    let d : Else-run-eq0 = (goal.at.loop-at-preserved c).Else-run-eq0 in
    let whole : List (ℕ × ℕ) = placed_in 0 c.args.spans.now (pairs_of c.args.runs.now) in
    let r : KeptRun = slice_index_or c.args.runs.now c.loop-at.at no_run in
    let s : Span = slice_index_or c.args.spans.now c.loop-at.next no_span in
    walk_back whole c.loop-at.from c.loop-at.next c.args.spans.now (drop (c.loop-at.at + 1) c.args.runs.now) c.put_part.new.list.items no_span c.if-next-spans.true
    (walk_run whole c.loop-at.from s (drop (c.loop-at.next + 1) c.args.spans.now) r (drop (c.loop-at.at + 1) c.args.runs.now) c.loop-at.list.items c.put_part.new.list.items (here d) (omega (arith, c.if-run-eq0.false)) c.if-span-run.false c.in_ok-put_part.ensures)

pub returns : goal.returns
returns c = elim c.loop-at-test.branch [
  | then-loop-at-test+else-next-spans w ↦ walk_no_spans (placed_in 0 c.args.spans.now (pairs_of c.args.runs.now)) c.loop-at.from c.loop-at.next c.args.spans.now (drop c.loop-at.at c.args.runs.now) c.loop-at.list.items w.if-next-spans.false c.loop-at.invariant
  | else-loop-at-test w ↦ walk_no_runs (placed_in 0 c.args.spans.now (pairs_of c.args.runs.now)) c.loop-at.from c.loop-at.at (drop c.loop-at.next c.args.spans.now) c.args.runs.now c.loop-at.list.items w.loop-at-test.false c.loop-at.invariant
]
