-- Pieces: what is sent down through carriers.
use Rattle.std.specs.Prelude.{ℕ, ◌+◌, Bool, true, false, ◌&&◌, ◌||◌, List, [], length, map, flat_map, filter, nat_eq, nat_lt, nat_le, replicate, Option, Some, None}
use Rattle.std.specs.List.{list_any, last_or}
use Rattle.ed_base.specs.declared.edit.Change.{Change}
use Rattle.ed_base.specs.declared.piece.Piece.{Piece}
use Rattle.ed_base.specs.declared.piece.Side.{Side}
use Rattle.ed_base.specs.Numbers.{places}
use Rattle.ed_base.specs.Sorting.{sorted_by}
use Rattle.ed_base.specs.Edit.{woven}
use Rattle.ed_base.specs.Step.{Step, pairs_from}
use Rattle.ed_base.specs.ChangeList.{components}

-- a unit with its trail
abbrev pub Marked : Type 0
Marked = ℕ × List (ℕ × ℕ)

-- a component of what arrives at a buffer, its units with their trails
pub record Component : Type 0 where
  pub start : ℕ
  pub old_len : ℕ
  pub text : List (ℕ × List (ℕ × ℕ))

-- a piece of the edited buffer's own
abbrev pub own_piece : Change → Piece
own_piece c = record { start = c.start; len = c.old_len; text = c.text; trail = []; side = Side.M }

-- ---- the order at one gap

abbrev pub side_rank : Side → ℕ
side_rank Side.L = 0
side_rank Side.M = 1
side_rank Side.R = 2

abbrev pub last_pair : List (ℕ × ℕ) → Option (ℕ × ℕ)
last_pair trail = last_or None trail

-- by carrier and then by member, none first
abbrev pub pair_before : Option (ℕ × ℕ) → Option (ℕ × ℕ) → Bool
pair_before None None = false
pair_before None (Some b) = true
pair_before (Some a) None = false
pair_before (Some a) (Some b) = nat_lt a.0 b.0 || nat_eq a.0 b.0 && nat_lt a.1 b.1

-- by side, and within one side by the last pair of the trail
abbrev pub piece_before : Piece → Piece → Bool
piece_before a b = nat_lt (side_rank a.side) (side_rank b.side) || nat_eq (side_rank a.side) (side_rank b.side) && pair_before (last_pair a.trail) (last_pair b.trail)

-- ---- what the pieces make of a text

abbrev pub marked_units : Piece → List (ℕ × List (ℕ × ℕ))
marked_units p = map (λ u. (u, p.trail)) p.text

-- what is put in at the gap
abbrev pub put_at : List Piece → ℕ → List (ℕ × List (ℕ × ℕ))
put_at pieces g = flat_map marked_units (sorted_by piece_before (filter (λ p. nat_eq p.start g) pieces))

abbrev pub gone_at : List Piece → ℕ → Bool
gone_at pieces q = list_any (λ p. nat_le p.start q && nat_lt q (p.start + p.len)) pieces

abbrev pub unmarked : ℕ → ℕ × List (ℕ × ℕ)
unmarked u = (u, [])

-- the text that the pieces leave, each unit with its trail
abbrev pub marked_text : List Piece → List ℕ → List (ℕ × List (ℕ × ℕ))
marked_text pieces text = woven (put_at pieces) (gone_at pieces) 0 (map unmarked text)

-- the step of the pieces on a text of length n
abbrev pub piece_origins : List Piece → ℕ → List (Option ℕ)
piece_origins pieces n = woven (λ g. map (λ u. None) (put_at pieces g)) (gone_at pieces) 0 (map (λ p. Some p) (places n))

abbrev pub step_of_pieces : List Piece → ℕ → Step
step_of_pieces pieces n = record { old_len = n; new_len = length (piece_origins pieces n); kept = pairs_from 0 (piece_origins pieces n) }

abbrev pub component : ℕ → ℕ → List (ℕ × List (ℕ × ℕ)) → Component
component start old_len text = record { start = start; old_len = old_len; text = text }

-- the components of what arrives at a buffer whose text has length n
unfoldable pub arrived : List Piece → ℕ → List Component
arrived pieces n =
    let s : Step = step_of_pieces pieces n in
    components component (marked_text pieces (replicate n 0)) 0 0 s.kept s.old_len s.new_len
