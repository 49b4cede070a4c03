-- What a graph keeps beside the sources.
use Rattle.std.specs.Prelude.{ℕ, ◌<◌, ◌≡◌, ◌^◌, Bool, List, length}
use Rattle.ed_graph.specs.Standing.{IsLevelled, heights_in, rows_in, order_in}

-- there are fewer than 2^32 buffers, none stands on itself, and what is kept agrees with the sources
pub record IsKept (g : List (List ℕ)) (heights : List ℕ) (rows : List (List Bool)) (order : List ℕ) : Type 0 where
  pub few : length g < 2 ^ 32
  pub levelled : IsLevelled g
  pub heights_agree : heights ≡ heights_in g
  pub rows_agree : rows ≡ rows_in g
  pub order_agrees : order ≡ order_in g
