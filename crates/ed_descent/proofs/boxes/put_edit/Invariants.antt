use Rattle.std.proofs.Common.{◌≡◌, length, take}
use Rattle.std.specs.Prelude.{fold}
use Rattle.ed_stock.specs.Landing.{pieces_of_changes}
use Rattle.ed_descent.specs.InBoxes.{boxes_of, with_piece}
use Rattle.ed_descent.proofs.boxes.put_edit.Given as goal

abbrev pub invariant-loop-change : goal.invariant-loop-change
invariant-loop-change l = record {
  count : length l.boxes.items ≡ length l.fn.boxes.items;
  boxes : boxes_of l.boxes.items ≡ fold with_piece (boxes_of l.fn.boxes.items) (pieces_of_changes l.edit.buffer (take l.change-index l.change-items));
}
