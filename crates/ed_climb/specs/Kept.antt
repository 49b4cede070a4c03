-- What a stock keeps beside its buffers.
use Rattle.std.specs.Prelude.{◌≡◌, ℕ, List, length, map, slice_get, Some, None}
use Rattle.ed_base.specs.Numbers.{first_some, places}
use Rattle.ed_stock.specs.Stock.{sources_now, text_at}
use Rattle.ed_stock.specs.Limits.{inserted, versions, placements, stock_limits}
use Rattle.ed_risen.specs.Laws.{OneVector}
use Rattle.ed_risen.specs.Rising.{IsSettled}
use Rattle.ed_held.specs.Seen.{Known, stock_of}
use Rattle.ed_climb.specs.declared.counts.Counts.{Counts}

-- The buffers have their numbers; each text that is kept is the one that the definitions give; the graph has the sources of now; the stock is settled, and within its limits, whose numbers are kept.
pub record IsKept (ks : List Known) (graph : List (List ℕ)) (counts : Counts) : Type 0 where
  pub numbered : (b : ℕ) (k : Known) → slice_get ks b ≡ Some k → k.number ≡ b
  pub texts : (b v : ℕ) (k : Known) (t : List ℕ) → slice_get ks b ≡ Some k → slice_get k.texts v ≡ Some t → text_at (stock_of ks) b v ≡ t
  pub linked : graph ≡ map (sources_now (stock_of ks)) (places (length ks))
  pub settled : IsSettled (stock_of ks)
  pub one : OneVector (stock_of ks)
  pub within : first_some (stock_limits (stock_of ks)) ≡ None
  pub inserted : counts.inserted ≡ inserted (stock_of ks)
  pub versions : counts.versions ≡ versions (stock_of ks)
  pub placements : counts.placements ≡ placements (stock_of ks)
