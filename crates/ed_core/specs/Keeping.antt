-- Stocks that differ in their versions alone.
use Rattle.std.specs.Prelude.{◌≡◌, ℕ, length}
use Rattle.ed_stock.specs.Stock as stock
use Rattle.ed_stock.specs.Stock.{Stock, Buffer}

-- as many regions, live ones and numbers given
pub record HasAsMany (x y : Buffer) : Type 0 where
  pub live : length y.regions ≡ length x.regions
  pub given : y.regions_given ≡ x.regions_given

-- the same buffers, each with as many regions
pub record Keeps (s t : Stock) : Type 0 where
  pub count : stock.count t ≡ stock.count s
  pub regions : (b : ℕ) → HasAsMany (stock.buffer s b) (stock.buffer t b)
