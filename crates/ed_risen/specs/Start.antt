-- The stock with the first versions of a group.
use Rattle.std.specs.Prelude.{◌≡◌, ℕ, List, length}
use Rattle.ed_graph.specs.Standing.{IsLevelled, sources_in}
use Rattle.ed_stock.specs.Stock.{Stock, count, sources_now}
use Rattle.ed_stock.specs.Versions.{Rising}

-- The graph is one of all buffers, and has the sources that they have with the first versions; none is too high.
pub record IsStart (s : Stock) (graph : List (List ℕ)) (first : Rising) : Type 0 where
  pub levelled : IsLevelled graph
  pub len : length graph ≡ count s
  pub same_count : count first.stock ≡ count s
  pub same_most : first.stock.most_buffers ≡ s.most_buffers
  pub names : sources_now first.stock ≡ sources_in graph
