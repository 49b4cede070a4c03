-- States that pass no limit.
use Rattle.std.specs.Prelude.{◌≡◌, ℕ, ◌≤◌, ◌^◌, length, None}
use Rattle.ed_base.specs.Numbers.{first_some}
use Rattle.ed_stock.specs.Stock as stock
use Rattle.ed_stock.specs.Stock.{Stock}
use Rattle.ed_stock.specs.Limits.{stock_limits}
use Rattle.ed_machine.specs.State.{State}

-- no buffer has too many regions, live ones and numbers given
pub record HasFewRegions (s : Stock) : Type 0 where
  pub live : (b : ℕ) → length (stock.buffer s b).regions ≤ 1024
  pub given : (b : ℕ) → (stock.buffer s b).regions_given ≤ 2 ^ 20

pub record IsWithin (s : State) : Type 0 where
  pub stock : first_some (stock_limits s.stock) ≡ None
  pub regions : HasFewRegions s.stock
  pub answered : s.answered ≤ 2 ^ 25
