use Rattle.std.proofs.Common.{◌≡◌, ◌<◌, All, length}
use Rattle.std.specs.Prelude.{fold}
use Rattle.std.specs.Vec.Iter.{into_iter_items}
use Rattle.ed_descent.specs.InBoxes.{boxes_of, with_piece}
use Rattle.ed_descent.proofs.boxes.put_all.Given as goal

abbrev pub invariant-loop-buffer : goal.invariant-loop-buffer
invariant-loop-buffer l = record {
  count : length l.boxes.items ≡ length l.fn.boxes.items;
  there : All (λ p. p.0 < length l.fn.boxes.items) (into_iter_items l.buffer-iterator);
  boxes : fold with_piece (boxes_of l.boxes.items) (into_iter_items l.buffer-iterator) ≡ fold with_piece (boxes_of l.fn.boxes.items) l.fn.sent.items;
}
