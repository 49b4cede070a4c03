-- The units up to a change and its text are those that the changes so far lead to.
use Rattle.std.proofs.Common.{length, ap, sym, ◌∙◌, arith}
use Rattle.std.proofs.lemmas.List.{take_rest}
use Rattle.ed_base.specs.ChangeList.{applied, AreNormalFrom}
use Rattle.ed_change.proofs.Laws.{applied_spliced, length_applied}
use Rattle.ed_change.proofs.Splicing.{copied_at, copied_next, copied_end}
use Rattle.ed_change.proofs.text.apply.Goals as goal

pub loop-change-init : goal.loop-change-init
loop-change-init c =
    let normal : AreNormalFrom 0 c.args.changes.now.old_len c.args.changes.now.changes = c.as_slice-change-items.ensures.normal.changes in
    rw c.as_slice-change-items.ensures.changes (record {
      within = omega arith;
      normal = rw c.requires normal;
      text = rw (c.of-text.ensures, c.in_ok-with_capacity.ensures.items) (sym (applied_spliced c.args.changes.now c.args.units.now c.requires normal));
    })

pub slice_bounds-extend-start : goal.slice_bounds-extend-start
slice_bounds-extend-start c = (copied_at c.args.units.now (applied c.args.changes.now c.args.units.now) c.loop-change.at c.loop-change.text c.as_slice-change-items.result.now c.loop-change.change-index c.change-item.result c.loop-change-test.true c.change-item.is c.loop-change.invariant).normal.0

pub loop-change-preserved : goal.loop-change-preserved
loop-change-preserved c =
    let here = copied_at c.args.units.now (applied c.args.changes.now c.args.units.now) c.loop-change.at c.loop-change.text c.as_slice-change-items.result.now c.loop-change.change-index c.change-item.result c.loop-change-test.true c.change-item.is c.loop-change.invariant in
    rw (c.in_ok-extend-2.ensures.ok, c.in_ok-extend.ensures.ok, c.as_slice.ensures) (copied_next c.args.units.now (applied c.args.changes.now c.args.units.now) c.loop-change.at c.loop-change.text c.change-item.result _ here)

pub returns : goal.returns
returns c =
    let text = c.in_ok-extend-3.ensures.ok ∙ rw take_rest (copied_end c.args.units.now (applied c.args.changes.now c.args.units.now) c.loop-change.at c.loop-change.text c.as_slice-change-items.result.now c.loop-change.change-index c.loop-change-test.false c.loop-change.invariant) in
    record {
      text = text;
      len = ap length text ∙ length_applied c.args.changes.now c.args.units.now c.requires c.as_slice-change-items.ensures.normal.changes;
    }
