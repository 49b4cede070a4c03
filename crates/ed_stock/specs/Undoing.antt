-- Groups done and undone.
use Rattle.std.specs.Prelude.{ℕ, ◌+◌, Bool, false, not, ◌&&◌, ◌||◌, List, map, flat_map, filter, fold, find, nat_eq, Option, None, option_map, is_some, if◌then◌else◌}
use Rattle.std.specs.Option.{option_map_or}
use Rattle.std.specs.List.{list_all}
use Rattle.ed_base.specs.declared.piece.Piece.{Piece}
use Rattle.ed_base.specs.Numbers.{places}
use Rattle.ed_base.specs.ChangeList.{inverse}
use Rattle.ed_layers.specs.Records.{is_carrier}
use Rattle.ed_stock.specs.Stock.{Stock, Buffer, Part, Mark, Recorded, buffer, now, record_now, text_now, reiterated, count, reaches, with_buffer}
use Rattle.ed_stock.specs.Versions.{Rising, step_in}
use Rattle.ed_stock.specs.Landing.{pieces_of_changes, bases_reached, base_changes, landed}

abbrev pub carriers : Stock → List ℕ
carriers s = filter (λ b. is_carrier (record_now s b)) (places (count s))

-- ---- what is recorded of a group

abbrev part : Stock → Stock → List (ℕ × Piece) → ℕ → Part
part before after pending b = record {
  buffer = b;
  forward = base_changes before pending b;
  inverse = inverse (base_changes before pending b) (text_now before b);
  before = reiterated before b (now before b);
  after = reiterated after b (now after b);
}

abbrev mark : Stock → Stock → ℕ → Mark
mark before after b = record { carrier = b; before = now before b; after = now after b; turns = (buffer before b).turns }

-- the group of the pieces that lead from one state to another
unfoldable pub recorded : Stock → Stock → List (ℕ × Piece) → Recorded
recorded before after pending = record { parts = map (part before after pending) (bases_reached before pending); marks = map (mark before after) (carriers before) }

-- ---- carriers that are untouched since a group

abbrev pub mark_of : Recorded → ℕ → Option Mark
mark_of g b = find (λ m. nat_eq m.carrier b) g.marks

-- the carrier has a mark with its present turns
abbrev has_turns : Stock → Recorded → ℕ → Bool
has_turns s g b = option_map_or (λ m. nat_eq m.turns (buffer s b).turns) (mark_of g b) false

-- it and each carrier below it
abbrev pub is_untouched : Stock → Recorded → ℕ → Bool
is_untouched s g b = list_all (λ c. not (reaches s b c) || has_turns s g c) (carriers s)

-- the version whose bounds or hidden places an untouched carrier gets back
abbrev pub given_back : (Mark → ℕ) → Stock → Recorded → ℕ → Option ℕ
given_back which s g b = if is_untouched s g b then option_map which (mark_of g b) else None

-- a carrier that got a version though it wasn't untouched has one turn more
abbrev turned_at : Stock → Recorded → Rising → Stock → ℕ → Stock
turned_at before g r s b = if is_some (step_in r.moves b) && not (is_untouched before g b) then with_buffer s b (turn (buffer s b)) else s
  where
    turn : Buffer → Buffer
    turn x = record x { turns = x.turns + 1 }

unfoldable pub turned : Stock → Recorded → Rising → Rising
turned before g r = record r { stock = fold (turned_at before g r) r.stock (carriers before) }

-- ---- undo and redo

abbrev pub number_in : (Part → ℕ) → Recorded → ℕ → Option ℕ
number_in which g b = option_map which (find (λ p. nat_eq p.buffer b) g.parts)

abbrev pub undo_pieces : Recorded → List (ℕ × Piece)
undo_pieces g = flat_map (λ p. pieces_of_changes p.buffer p.inverse.changes) g.parts

abbrev pub redo_pieces : Recorded → List (ℕ × Piece)
redo_pieces g = flat_map (λ p. pieces_of_changes p.buffer p.forward.changes) g.parts

unfoldable pub undone : Stock → Recorded → Rising
undone s g = turned s g (landed s (undo_pieces g) (number_in (λ p. p.before) g) (given_back (λ m. m.before) s g))

unfoldable pub redone : Stock → Recorded → Rising
redone s g = turned s g (landed s (redo_pieces g) (number_in (λ p. p.after) g) (given_back (λ m. m.after) s g))
