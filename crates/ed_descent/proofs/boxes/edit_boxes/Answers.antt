use Rattle.std.proofs.Common.{◌∙◌}
use Rattle.ed_stock.specs.Landing.{pieces_of_changes}
use Rattle.ed_descent.specs.Edits.{IsNormalEdit}
use Rattle.ed_descent.specs.InBoxes.{boxes_of}
use Rattle.ed_descent.proofs.BoxLemmas.{all_more, as_many, edits_more}
use Rattle.ed_descent.proofs.boxes.edit_boxes.Goals as goal

pub loop-edit-preserved : goal.loop-edit-preserved
loop-edit-preserved c = record {
  count = as_many c.loop-edit.boxes.items c.put_edit.new.boxes.items (pieces_of_changes c.edit-item.result.buffer c.edit-item.result.changes.changes) c.in_ok-put_edit.ensures.put ∙ c.loop-edit.invariant.count;
  boxes = edits_more c.args.edits.now c.loop-edit.edit-index c.args.count c.edit-item.result (boxes_of c.loop-edit.boxes.items) (boxes_of c.put_edit.new.boxes.items) c.loop-edit-test.true c.edit-item.is c.loop-edit.invariant.boxes c.in_ok-put_edit.ensures.put;
  normal = all_more IsNormalEdit c.args.edits.now c.loop-edit.edit-index c.edit-item.result c.loop-edit-test.true c.edit-item.is c.loop-edit.invariant.normal c.put_edit.ensures.normal;
}
