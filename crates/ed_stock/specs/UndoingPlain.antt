-- Undo and redo as they are before carriers get their bounds back: a group has no marks.
use Rattle.std.specs.Prelude.{ℕ, List, [], map}
use Rattle.ed_base.specs.declared.piece.Piece.{Piece}
use Rattle.ed_base.specs.ChangeList.{inverse}
use Rattle.ed_stock.specs.Stock.{Stock, Part, Recorded, now, text_now, reiterated}
use Rattle.ed_stock.specs.Versions.{Rising, none_given}
use Rattle.ed_stock.specs.Landing.{bases_reached, base_changes, landed}
use Rattle.ed_stock.specs.Undoing.{number_in, undo_pieces, redo_pieces}

abbrev part : Stock → Stock → List (ℕ × Piece) → ℕ → Part
part before after pending b = record {
  buffer = b;
  forward = base_changes before pending b;
  inverse = inverse (base_changes before pending b) (text_now before b);
  before = reiterated before b (now before b);
  after = reiterated after b (now after b);
}

unfoldable pub recorded : Stock → Stock → List (ℕ × Piece) → Recorded
recorded before after pending = record { parts = map (part before after pending) (bases_reached before pending); marks = [] }

unfoldable pub undone : Stock → Recorded → Rising
undone s g = landed s (undo_pieces g) (number_in (λ p. p.before) g) none_given

unfoldable pub redone : Stock → Recorded → Rising
redone s g = landed s (redo_pieces g) (number_in (λ p. p.after) g) none_given
