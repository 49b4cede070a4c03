use Rattle.std.proofs.Common.{◌≡◌, [], replicate}
use Rattle.ed_descent.specs.InBoxes.{boxes_of}
use Rattle.ed_descent.proofs.boxes.empty_boxes.Given as goal

abbrev pub invariant-loop-index : goal.invariant-loop-index
invariant-loop-index l = boxes_of l.boxes.items ≡ replicate l._index []
