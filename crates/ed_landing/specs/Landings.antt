-- All bases on which pieces land, by number.
use Rattle.std.specs.Prelude.{◌≡◌, ℕ, ◌<◌, ◌≤◌, ◌^◌, true, false, List, [], ◌∷◌, length, map, slice_index_or, Result, Ok, Err, Option, MatchOption, None}
use Rattle.std.specs.List.{AllByRecursion as Each}
use Rattle.ed_base.specs.declared.Piece.{Piece}
use Rattle.ed_base.specs.declared.refusal.Refusal.{Refusal}
use Rattle.ed_base.specs.Hooks.{HookTable}
use Rattle.ed_base.specs.Numbers.{first_some, is_among}
use Rattle.ed_buffer.specs.Planning.{AreInside, put_in}
use Rattle.ed_graph.specs.Standing.{IsLevelled, height_in, sources_in}
use Rattle.ed_layers.specs.Pieces.{marked_text}
use Rattle.ed_layers.specs.Records.{is_carrier}
use Rattle.ed_stock.specs.Landing.{denial, denied_in, landed, pieces_at}
use Rattle.ed_stock.specs.Limits.{stock_limits}
use Rattle.ed_stock.specs.Stock.{Stock, count, record_now, sources_now, text_now}
use Rattle.ed_stock.specs.Versions.{none_given}
use Rattle.ed_risen.specs.Rising.{IsSettled, Rises}
use Rattle.ed_held.specs.declared.held.Held.{Held}
use Rattle.ed_held.specs.declared.moves.Move.{Move}
use Rattle.ed_held.specs.Moves.{AreApart, IsPlannedAt, rising_of}
use Rattle.ed_held.specs.Seen.{known, stock}
use Rattle.ed_climb.specs.Refusals.{Refuses}
use Rattle.ed_climb.specs.Route.{AreTrue, IsNewest}
use Rattle.ed_climb.specs.declared.fault.PlanFault.{PlanFault}
use Rattle.ed_sending.specs.LandedBelow.{is_reached, landed_below, reached_below}

-- what stands beside the buffers: their texts are true, and the graph is theirs
pub record StandOn (hs : List Held) (graph : List (List ℕ)) : Type 0 where
  pub true : AreTrue (map known hs)
  pub settled : IsSettled (stock hs)
  pub levelled : IsLevelled graph
  pub as_long : length graph ≡ count (stock hs)
  pub names : sources_in graph ≡ sources_now (stock hs)
  pub within : first_some (stock_limits (stock hs)) ≡ None

-- all that has arrived at the bases, box by box
pub record HaveArrived (s : Stock) (pending : List (ℕ × Piece)) (boxes : List (List Piece)) : Type 0 where
  pub each : length boxes ≡ count s
  pub pieces : (b : ℕ) → b < count s → is_carrier (record_now s b) ≡ false → slice_index_or boxes b [] ≡ pieces_at pending b
  pub inside : (b : ℕ) → b < count s → is_carrier (record_now s b) ≡ false → AreInside (length (text_now s b)) (pieces_at pending b)
  pub put_in : (b : ℕ) → b < count s → is_carrier (record_now s b) ≡ false → put_in (pieces_at pending b) ≤ 2 ^ 27

-- how long the text of a base is then
abbrev pub len_left : Stock → List (ℕ × Piece) → ℕ → ℕ
len_left s pending b = length (marked_text (pieces_at pending b) (text_now s b))

-- Of the first k buffers, all bases that pieces reach have landed.
pub record HaveLanded (hs : List Held) (graph : List (List ℕ)) (pending : List (ℕ × Piece)) (k : ℕ) (hs' : List Held) (ms : List Move) : Type 0 where
  pub done : List ℕ
  pub rises : Rises (stock hs) (height_in graph) [] done (landed_below (stock hs) pending k)
  pub below : (c : ℕ) → is_among c done ≡ true → (c < k) × (is_carrier (record_now (stock hs) c) ≡ false)
  pub reached : (c : ℕ) → c < k → is_reached (stock hs) pending c ≡ true → is_among c done ≡ true
  pub landed : rising_of (stock hs) ms ≡ landed_below (stock hs) pending k
  pub planned : Each (IsPlannedAt hs') ms
  pub apart : AreApart ms
  pub those : Each (λ m. m.buffer < k) ms
  pub there : Each (λ m. m.buffer < count (stock hs)) ms
  pub newest : Each (IsNewest (rising_of (stock hs) ms).stock) ms
  pub short : (c : ℕ) → c < k → is_reached (stock hs) pending c ≡ true → len_left (stock hs) pending c ≤ 2 ^ 22

-- The text of one of them would be too long: it is the first, and would be so long.
pub record IsFirstLong (s : Stock) (pending : List (ℕ × Piece)) (k n : ℕ) : Type 0 where
  pub b : ℕ
  pub below : b < k
  pub is : is_reached s pending b ≡ true
  pub len : len_left s pending b ≡ n
  pub long : 2 ^ 22 < n
  pub earlier : (c : ℕ) → c < b → is_reached s pending c ≡ true → len_left s pending c ≤ 2 ^ 22

-- how it stands with the first k buffers: all have landed, or one is too long
abbrev pub Going : List Held → List (List ℕ) → List (ℕ × Piece) → ℕ → List Held → List Move → Option ℕ → Type 0
Going hs graph pending k hs' ms long = MatchOption long (HaveLanded hs graph pending k hs' ms) (IsFirstLong (stock hs) pending k)

-- so far, where no region denied anything
pub record SoFar (hooks : HookTable) (hs : List Held) (graph : List (List ℕ)) (pending : List (ℕ × Piece)) (k : ℕ) (hs' : List Held) (ms : List Move) (long : Option ℕ) : Type 0 where
  pub same : map known hs' ≡ map known hs
  pub allowed : denied_in hooks (stock hs) pending (reached_below (stock hs) pending k) ≡ None
  pub going : Going hs graph pending k hs' ms long

-- why the group of the pieces isn't planned
abbrev pub landing_fault : HookTable → Stock → List (ℕ × Piece) → Option Refusal
landing_fault hooks s pending = first_some (denial hooks s pending ∷ first_some (stock_limits (landed s pending none_given none_given).stock) ∷ [])

-- one more
abbrev pub GoesOn : HookTable → List Held → List (List ℕ) → List (ℕ × Piece) → ℕ → List Held → List Move → Result (Option ℕ) PlanFault → Type 0
GoesOn hooks hs graph pending k hs' ms (Ok long) = SoFar hooks hs graph pending k hs' ms long
GoesOn hooks hs graph pending k hs' ms (Err e) = Refuses {X = Unit {0}} (landing_fault hooks (stock hs) pending) (Err e)

-- no region denied anything, and all bases that pieces reach have landed
abbrev pub AllLanded : HookTable → List Held → List (List ℕ) → List (ℕ × Piece) → List Held → List Move → Type 0
AllLanded hooks hs graph pending hs' ms = (denial hooks (stock hs) pending ≡ None) × HaveLanded hs graph pending (count (stock hs)) hs' ms
