-- Bases that land one after another, by number.
use Rattle.std.specs.Prelude.{ℕ, Bool, not, ◌&&◌, List, [], length, filter, fold, nat_eq}
use Rattle.ed_base.specs.declared.piece.Piece.{Piece}
use Rattle.ed_base.specs.Numbers.{places}
use Rattle.ed_layers.specs.Records.{is_carrier}
use Rattle.ed_stock.specs.Landing.{landed_at, pieces_at}
use Rattle.ed_stock.specs.Stock.{Stock, record_now}
use Rattle.ed_stock.specs.Versions.{Rising, none_given}

-- whether the buffer is a base that pieces reach
abbrev pub is_reached : Stock → List (ℕ × Piece) → ℕ → Bool
is_reached s pending b = not (is_carrier (record_now s b)) && not (nat_eq (length (pieces_at pending b)) 0)

-- those that are, below k
abbrev pub reached_below : Stock → List (ℕ × Piece) → ℕ → List ℕ
reached_below s pending k = filter (is_reached s pending) (places k)

-- the stock in which they have landed
abbrev pub landed_below : Stock → List (ℕ × Piece) → ℕ → Rising
landed_below s pending k = fold (landed_at pending none_given) (record { stock = s; moves = [] }) (reached_below s pending k)
