use Rattle.std.proofs.Common.{◌≡◌, ℕ, length, map, fold}
use Rattle.std.specs.List.{AllByRecursion as Each}
use Rattle.std.specs.Vec.Iter.{into_iter_items}
use Rattle.ed_climb.specs.Group.{MayTurn, known_moved}
use Rattle.ed_held.specs.Moves.{AreApart, IsPlannedAt}
use Rattle.ed_held.specs.Seen.{known}
use Rattle.ed_climb.proofs.making.make_all.Given as goal

abbrev pub invariant-loop-next : goal.invariant-loop-next
invariant-loop-next l = record {
  made : Each (IsPlannedAt l.buffers) (into_iter_items l.next-iterator);
  apart : AreApart (into_iter_items l.next-iterator);
  len : length l.buffers ≡ length l.fn.buffers;
  known : fold known_moved (map known l.buffers) (into_iter_items l.next-iterator) ≡ fold known_moved (map known l.fn.buffers) l.fn.moves.items;
  turning : (b : ℕ) → MayTurn l.fn.buffers b → MayTurn l.buffers b;
}
