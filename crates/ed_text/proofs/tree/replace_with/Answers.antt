use Rattle.std.proofs.Common.{◌++◌, length, flat_map, arith, ◌∙◌, sym, ap}
use Rattle.ed_change.proofs.Laws.{length_applied}
use Rattle.ed_text.proofs.ReplacedSoFar.{replaced_begin, replaced_at, replaced_next, replaced_end, sizes_at}
use Rattle.ed_text.proofs.tree.replace_with.Goals as goal

pub loop-change-init : goal.loop-change-init
loop-change-init g c =
    let items = c.as_slice-change-items.ensures in
    let none = ap length c.new-row.ensures.items in (
      (λ one. c.in_ok-share_all.ensures.half_full (λ k d l. absurd (omega (arith, l, none))) (c.branches.ensures.balanced (omega (arith, one, c.in_ok-share_all.ensures.len, none)))),
      replaced_begin c.args.changes.now c.args.text.now _ _ (sym c.requires.old) items.normal.changes items.changes
          (c.in_ok-share_all.ensures.units ∙ (ap (λ xs. flat_map (λ n. n) xs ++ flat_map (λ n. n) c.branches.result.now) c.new-row.ensures.items ∙ c.branches.ensures.units)),
    )

pub loop-change-preserved : goal.loop-change-preserved
loop-change-preserved g c =
    let b = replaced_at _ _ _ _ _ _ _ _ c.loop-change-test.true c.change-item.is c.loop-change.invariant.1 in
    (c.in_ok-row.ensures.balanced, rw (c.in_ok-row.ensures.units, c.as_slice.ensures.value, c.as_slice-in-loop-change.ensures, c.as_slice-in-loop-change-2.ensures) (replaced_next _ _ _ _ _ _ _ b))

pub overflow_add-start : goal.overflow_add-start
overflow_add-start g c =
    let z = sizes_at c.args.changes.now _ _ _ _ _ _ _ c.requires.old c.as_slice-change-items.ensures.normal.changes c.loop-change-test.true c.change-item.is c.loop-change.invariant.1 in
    omega (arith, z.past, z.within, z.fits, c.requires.new)

pub splice_row-requires-clause-whole : goal.splice_row-requires-clause-whole
splice_row-requires-clause-whole g c =
    let z = sizes_at c.args.changes.now _ _ _ _ _ _ _ c.requires.old c.as_slice-change-items.ensures.normal.changes c.loop-change-test.true c.change-item.is c.loop-change.invariant.1 in
    omega (arith, z.past, z.within, z.fits, z.all, c.requires.new, ap (λ xs. length (flat_map (λ n. n) xs)) c.as_slice.ensures.value)

pub splice_row-requires-clause-most : goal.splice_row-requires-clause-most
splice_row-requires-clause-most g c =
    let z = sizes_at c.args.changes.now _ _ _ _ _ _ _ c.requires.old c.as_slice-change-items.ensures.normal.changes c.loop-change-test.true c.change-item.is c.loop-change.invariant.1 in
    omega (arith, z.past, z.within, z.fits, z.all, c.requires.new, ap (λ xs. length (flat_map (λ n. n) xs)) c.as_slice.ensures.value, ap length c.as_slice-in-loop-change.ensures)

pub overflow_cast-to : goal.overflow_cast-to
overflow_cast-to g c =
    let z = sizes_at c.args.changes.now _ _ _ _ _ _ _ c.requires.old c.as_slice-change-items.ensures.normal.changes c.loop-change-test.true c.change-item.is c.loop-change.invariant.1 in
    omega (arith, z.fits, c.requires.new, ap length c.as_slice-in-loop-change-2.ensures)

pub overflow_add-to : goal.overflow_add-to
overflow_add-to g c =
    let z = sizes_at c.args.changes.now _ _ _ _ _ _ _ c.requires.old c.as_slice-change-items.ensures.normal.changes c.loop-change-test.true c.change-item.is c.loop-change.invariant.1 in
    omega (arith, z.fits, c.requires.new, ap length c.as_slice-in-loop-change-2.ensures)

pub of_branches-requires-clause-most : goal.of_branches-requires-clause-most
of_branches-requires-clause-most g c =
    let e = replaced_end _ _ _ _ _ _ _ c.loop-change-test.false c.loop-change.invariant.1 in
    let l = length_applied c.args.changes.now c.args.text.now (sym c.requires.old) c.as_slice-change-items.ensures.normal.changes in
    omega (arith, ap length e, l, c.requires.new)

pub returns-clause-text : goal.returns-clause-text
returns-clause-text g c = c.in_ok-new.ensures.text ∙ replaced_end _ _ _ _ _ _ _ c.loop-change-test.false c.loop-change.invariant.1

pub returns-clause-len : goal.returns-clause-len
returns-clause-len g c =
    let text = c.in_ok-new.ensures.text ∙ replaced_end _ _ _ _ _ _ _ c.loop-change-test.false c.loop-change.invariant.1 in
    ap length text ∙ length_applied c.args.changes.now c.args.text.now (sym c.requires.old) c.as_slice-change-items.ensures.normal.changes
