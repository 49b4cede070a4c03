use Rattle.std.proofs.Common.{◌<◌, ◌^◌, suc, length, drop, sum_by, arith, ap, ◌∙◌, drop-cons, get_or}
use Rattle.std.proofs.lemmas.List.Sums.{sum_by-cons}
use Rattle.ed_base.specs.declared.edit.Change.{Change}
use Rattle.ed_base.specs.ChangeList.{inserted_len}
use Rattle.ed_core.proofs.Inserted.{inserted_few}
use Rattle.ed_core.proofs.weights.inserted.Goals as goal

pub overflow_add-units : goal.overflow_add-units
overflow_add-units c =
    let few : inserted_len c.args.changes.now < 2 ^ 32 = inserted_few c.args.changes.now c.as_slice-change-items.ensures.normal in
    let here = drop-cons c.as_slice-change-items.result.now c.loop-change.change-index c.change-item.result c.loop-change-test.true in
    let sums = ap (sum_by (λ (x : Change). length x.text)) here ∙ sum_by-cons (λ (x : Change). length x.text) (get_or c.as_slice-change-items.result.now c.loop-change.change-index c.change-item.result) (drop (suc c.loop-change.change-index) c.as_slice-change-items.result.now) in
    let item = ap (λ (x : Change). length x.text) c.change-item.is in
    omega (arith, c.loop-change.invariant, few, sums, item, ap length c.as_slice.ensures)

pub returns-clause-few : goal.returns-clause-few
returns-clause-few c =
    let few : inserted_len c.args.changes.now < 2 ^ 32 = inserted_few c.args.changes.now c.as_slice-change-items.ensures.normal in
    omega (arith, c.loop-change.invariant, few)
