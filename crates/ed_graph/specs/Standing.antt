-- A graph of buffers as the list of each buffer's sources, and why a buffer can't stand on sources.
use Rattle.std.specs.Prelude.{ℕ, ◌<◌, ◌≤◌, ◌≡◌, Bool, false, List, [], length, map, slice_index_or, slice_set, find, nat_lt, All, Option, Some, None, option_map, if◌then◌else◌}
use Rattle.ed_base.specs.Numbers.{or_else, places}
use Rattle.ed_layers.specs.Graph.{height, reaches, graph_order, greatest_height}
use Rattle.ed_graph.specs.declared.fault.LinkFault.{LinkFault}

-- the sources of a buffer; none where there is no such buffer
abbrev pub sources_in : List (List ℕ) → ℕ → List ℕ
sources_in g b = slice_index_or g b []

-- how high a buffer stands, whether one is or stands over another, the order, and the greatest height
abbrev pub height_in : List (List ℕ) → ℕ → ℕ
height_in g b = height (sources_in g) (length g) b

abbrev pub reaches_in : List (List ℕ) → ℕ → ℕ → Bool
reaches_in g from to = reaches (sources_in g) (length g) from to

abbrev pub order_in : List (List ℕ) → List ℕ
order_in g = graph_order (sources_in g) (length g)

abbrev pub greatest_in : List (List ℕ) → ℕ
greatest_in g = greatest_height (sources_in g) (length g)

-- the heights of all buffers, and for each whether it reaches each
abbrev pub heights_in : List (List ℕ) → List ℕ
heights_in g = map (height_in g) (places (length g))

abbrev pub rows_in : List (List ℕ) → List (List Bool)
rows_in g = map (λ from. map (reaches_in g from) (places (length g))) (places (length g))

-- the graph, were these the sources of the buffer
abbrev pub linked : List (List ℕ) → ℕ → List ℕ → List (List ℕ)
linked g b sources = slice_set g b sources

-- the first of the sources that reaches the buffer
abbrev pub first_cycle : List (List ℕ) → ℕ → List ℕ → Option ℕ
first_cycle g b sources = find (λ s. reaches_in g s b) sources

-- why the buffer can't stand on these sources, if anything forbids it
abbrev pub link_fault : List (List ℕ) → ℕ → List ℕ → Option LinkFault
link_fault g b sources =
    or_else (option_map LinkFault.Cycle (first_cycle g b sources))
    (if nat_lt 8 (greatest_in (linked g b sources)) then Some (LinkFault.Depth (greatest_in (linked g b sources))) else None)

-- every source is there
abbrev pub AreWithin : List (List ℕ) → Type 0
AreWithin g = All (All (λ s. s < length g)) g

-- Nothing stands on itself, also by way of others: each source is there, stands lower than what stands on it, and doesn't reach it. Nothing stands higher than 8.
pub record IsLevelled (g : List (List ℕ)) : Type 0 where
  pub within : AreWithin g
  pub lower : (b : ℕ) → All (λ s. height_in g s < height_in g b) (sources_in g b)
  pub no_cycle : (b : ℕ) → All (λ s. reaches_in g s b ≡ false) (sources_in g b)
  pub shallow : greatest_in g ≤ 8
