-- A group that was planned, and what it leaves.
use Rattle.std.specs.Prelude.{ℕ, List, map, fold, slice_get, slice_set, Option, MatchOption}
use Rattle.std.specs.Option.{option_map_or}
use Rattle.std.specs.List.{AllByRecursion as Each}
use Rattle.ed_stock.specs.Stock.{Stock, record_at}
use Rattle.ed_climb.specs.declared.counts.Counts.{Counts}
use Rattle.ed_held.specs.declared.held.Held.{Held}
use Rattle.ed_held.specs.declared.moves.Move.{Move}
use Rattle.ed_risen.specs.Counting.{turned_in}
use Rattle.ed_risen.specs.Founded.{Extends}
use Rattle.ed_climb.specs.Kept.{IsKept}
use Rattle.ed_held.specs.Moves.{AreApart, IsPlannedAt, with_move}
use Rattle.ed_held.specs.Seen.{Known, known, stock}
use Rattle.ed_held.specs.Making.{CanTurn, known_grown, known_turned}

-- The versions that will be made in their order, the buffer whose members were set if one's were, the graph and the numbers that there will be, and the versions as they will be told.
pub record Plan : Type 0 where
  pub moves : List Move
  pub turned : Option ℕ
  pub graph : List (List ℕ)
  pub counts : Counts
  pub versions : List (ℕ × ℕ)

-- the stock that the group leaves
abbrev pub outcome : Stock → Plan → Stock
outcome s g = turned_in (fold with_move s g.moves) g.turned

-- ---- what is known of the buffers then

abbrev pub set_known : (Known → Known) → ℕ → List Known → List Known
set_known f b ks = option_map_or (λ k. slice_set ks b (f k)) (slice_get ks b) ks

abbrev pub known_moved : List Known → Move → List Known
known_moved ks m = set_known (λ k. known_grown k m) m.buffer ks

abbrev pub known_made : List Known → List Move → Option ℕ → List Known
known_made ks moves turned = option_map_or (λ b. set_known known_turned b (fold known_moved ks moves)) turned (fold known_moved ks moves)

abbrev pub known_after : List Known → Plan → List Known
known_after ks g = known_made ks g.moves g.turned

-- ---- what makes a group one that can be made

-- the buffer can be changed once more otherwise than by an edit
abbrev pub MayTurn : List Held → ℕ → Type 0
MayTurn hs b = MatchOption (slice_get hs b) ⊥ CanTurn

-- The versions were planned of these buffers, and what they leave is a stock again, of which no record that was there has changed.
pub record IsPlanned (hs : List Held) (g : Plan) : Type 0 where
  pub made : Each (IsPlannedAt hs) g.moves
  pub apart : AreApart g.moves
  pub turning : MatchOption g.turned (Unit {0}) (MayTurn hs)
  pub kept : IsKept (known_after (map known hs) g) g.graph g.counts
  pub extends : Extends (record_at (stock hs)) (record_at (outcome (stock hs) g))
