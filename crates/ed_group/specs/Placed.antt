-- How high buffers would be stacked.
use Rattle.std.specs.Prelude.{ℕ, List, nat_lt, Option, Some, None, if◌then◌else◌}
use Rattle.ed_base.specs.declared.refusal.Refusal.{Refusal}
use Rattle.ed_graph.specs.Standing.{greatest_in}

-- the refusal of a graph that is too high
abbrev pub too_deep : List (List ℕ) → Option Refusal
too_deep g = if nat_lt 8 (greatest_in g) then Some (Refusal.Depth (greatest_in g)) else None
