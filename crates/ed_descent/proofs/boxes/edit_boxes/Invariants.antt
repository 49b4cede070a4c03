use Rattle.std.proofs.Common.{◌≡◌, All, [], length, replicate, take}
use Rattle.std.specs.Prelude.{fold}
use Rattle.ed_descent.specs.Edits.{IsNormalEdit, pieces_of_edits}
use Rattle.ed_descent.specs.InBoxes.{boxes_of, with_piece}
use Rattle.ed_descent.proofs.boxes.edit_boxes.Given as goal

abbrev pub invariant-loop-edit : goal.invariant-loop-edit
invariant-loop-edit l = record {
  count : length l.boxes.items ≡ l.count;
  boxes : boxes_of l.boxes.items ≡ fold with_piece (replicate l.count []) (pieces_of_edits (take l.edit-index l.edits));
  normal : All IsNormalEdit (take l.edit-index l.edits);
}
