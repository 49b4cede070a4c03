use Rattle.std.proofs.Common.{◌≡◌, ◌+◌, ◌-◌, ◌<◌, length, Some, get_or, refl, sym, ap, subst, ◌∙◌, ◌^◌, arith}
use Rattle.std.specs.Prelude.{slice_index}
use Rattle.ed_base.specs.ChangeList.{new_len}
use Rattle.ed_base.specs.NewStarts.{starts_from}
use Rattle.ed_project.proofs.SourceRuns.{RunFound, first_found, later_found}
use Rattle.ed_kept.specs.Kept.{kept_run}
use Rattle.ed_project.proofs.sources.run_at.Goals as goal
use Rattle.ed_project.proofs.sources.run_at.Goals.{Then-i-eq0, After-as_slice, After-index-list-i}

first : (c : Then-i-eq0) → RunFound c.args.changes.now c.args.i 0 0 c.stop_of-end.result
first c = first_found c.args.changes.now c.args.i c.stop_of-end.result c.as_slice-list.ensures.normal c.if-i-eq0.true c.stop_of-end.ensures

pub returns-then-i-eq0-clause-run : goal.returns-then-i-eq0-clause-run
returns-then-i-eq0-clause-run c = (first c).run ∙ ap (λ n. Some (kept_run 0 0 n)) (let e : c.stop_of-end.result - 0 ≡ c.stop_of-end.result = omega arith in e)

pub returns-then-i-eq0-clause-old : goal.returns-then-i-eq0-clause-old
returns-then-i-eq0-clause-old c = omega (arith, (first c).old_end)

pub returns-then-i-eq0-clause-new : goal.returns-then-i-eq0-clause-new
returns-then-i-eq0-clause-new c = omega (arith, (first c).new_end)

later : (c : After-as_slice) → RunFound c.args.changes.now c.args.i (c.index-list-i.result.start + c.index-list-i.result.old_len) (c.new_start.result + length c.as_slice.result.now) c.stop_of-end.result
later c =
    let before : c.index-list-i.result ≡ get_or c.args.changes.now.changes (c.args.i - 1) c.index-list-i.result = c.index-list-i.is ∙ ap (λ xs. get_or xs (c.args.i - 1) c.index-list-i.result) c.as_slice-list.ensures.changes in
    let found : RunFound c.args.changes.now c.args.i (c.index-list-i.result.start + c.index-list-i.result.old_len) (c.new_start.result + length c.index-list-i.result.text) c.stop_of-end.result =
    later_found c.args.changes.now c.args.i c.stop_of-end.result c.new_start.result c.index-list-i.result c.as_slice-list.ensures.normal (omega (arith, c.if-i-eq0.false)) c.requires c.stop_of-end.ensures before c.new_start.ensures in
    subst (λ xs. RunFound c.args.changes.now c.args.i (c.index-list-i.result.start + c.index-list-i.result.old_len) (c.new_start.result + length xs) c.stop_of-end.result) (sym c.as_slice.ensures) found

early : (c : After-index-list-i) → RunFound c.args.changes.now c.args.i (c.index-list-i.result.start + c.index-list-i.result.old_len) (slice_index (starts_from 0 0 c.args.changes.now.changes) (c.args.i - 1) + length c.index-list-i.result.text) c.stop_of-end.result
early c =
    let before : c.index-list-i.result ≡ get_or c.args.changes.now.changes (c.args.i - 1) c.index-list-i.result = c.index-list-i.is ∙ ap (λ xs. get_or xs (c.args.i - 1) c.index-list-i.result) c.as_slice-list.ensures.changes in
    later_found c.args.changes.now c.args.i c.stop_of-end.result (slice_index (starts_from 0 0 c.args.changes.now.changes) (c.args.i - 1)) c.index-list-i.result c.as_slice-list.ensures.normal (omega (arith, c.if-i-eq0.false)) c.requires c.stop_of-end.ensures before refl

short : (c : After-as_slice) → (c.args.changes.now.old_len < 2 ^ 32) × (new_len c.args.changes.now < 2 ^ 32)
short c = (c.as_slice-list.ensures.old_short, c.as_slice-list.ensures.normal.fits)

pub overflow_add-old : goal.overflow_add-old
overflow_add-old c = omega (arith, (early c).order, (early c).old_end, c.as_slice-list.ensures.old_short)

pub overflow_cast-new : goal.overflow_cast-new
overflow_cast-new c = omega (arith, (later c).new_end, (short c).1)

pub overflow_add-new : goal.overflow_add-new
overflow_add-new c = omega (arith, (later c).new_end, (short c).1)

pub overflow_sub-result : goal.overflow_sub-result
overflow_sub-result c = (later c).order

pub returns-clause-run : goal.returns-clause-run
returns-clause-run c = (later c).run

pub returns-clause-old : goal.returns-clause-old
returns-clause-old c = omega (arith, (later c).order, (later c).old_end)

pub returns-clause-new : goal.returns-clause-new
returns-clause-new c = (later c).new_end
