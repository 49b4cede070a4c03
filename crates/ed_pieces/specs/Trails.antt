-- The ways by which the units of a text came, by runs.
use Rattle.std.specs.Prelude.{ℕ, ◌≤◌, List, [], ◌∷◌, map, find}
use Rattle.std.specs.Option.{option_map_or}
use Rattle.ed_base.specs.Numbers.{places}
use Rattle.ed_base.specs.Spans.{end_of, holds_place}
use Rattle.ed_pieces.specs.declared.trails.TrailRun.{TrailRun}

-- from this place on, each begins where the one before it ends, or behind
abbrev pub AreRising : ℕ → List TrailRun → Type 0
AreRising p [] = Unit {0}
AreRising p (run ∷ runs) = (p ≤ run.span.start) × AreRising (end_of run.span) runs

-- the way of the unit at a place
abbrev pub trail_in : List TrailRun → ℕ → List (ℕ × ℕ)
trail_in runs q = option_map_or (λ run. run.trail) (find (λ run. holds_place run.span q) runs) []

-- those of all units of a text of this length
abbrev pub trails_in : List TrailRun → ℕ → List (List (ℕ × ℕ))
trails_in runs n = map (trail_in runs) (places n)
