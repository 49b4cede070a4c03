-- The ways of the units of a carrier, by runs.
use Rattle.std.specs.Prelude.{◌≡◌, ℕ, ◌+◌, ◌-◌, ◌<◌, ◌≤◌, Bool, true, ◌&&◌, List, [], ◌∷◌, length, map, max, nat_eq, nat_lt, if◌then◌else◌}
use Rattle.std.specs.List.{range_with_len}
use Rattle.ed_base.specs.declared.edit.Span.{Span}
use Rattle.ed_base.specs.Spans.{end_of, shared, shares_unit}
use Rattle.ed_layers.specs.SourceStep.{ends_with, without_last}
use Rattle.ed_pieces.specs.declared.trails.TrailRun.{TrailRun}
use Rattle.ed_pieces.specs.Trails.{trail_in}

-- whether units of the trail came last through this member of the carrier, any member of an elision buffer, and through another carrier before
abbrev pub goes_on : ℕ → Bool → ℕ → List (ℕ × ℕ) → Bool
goes_on carrier of_elision i trail = ends_with carrier (λ j. if of_elision then true else nat_eq j i) trail && nat_lt 1 (length trail)

-- The places in a carrier of what a span shares with the bounds of a member that begins at place p.
abbrev pub place_above : ℕ → Span → Span → Span
place_above p bounds span = record { start = p + (max span.start bounds.start - bounds.start); len = (shared span bounds).len }

-- what a run of the source says of the units of the member, if their trail goes on
abbrev pub run_above : ℕ → Bool → ℕ → ℕ → Span → TrailRun → List TrailRun
run_above carrier of_elision i p bounds run = if shares_unit run.span bounds && goes_on carrier of_elision i run.trail then record { span = place_above p bounds run.span; trail = without_last run.trail } ∷ [] else []

-- the runs lie between two places, each behind the one before
abbrev pub LieBetween : ℕ → ℕ → List TrailRun → Type 0
LieBetween a b [] = a ≤ b
LieBetween a b (run ∷ runs) = (a ≤ run.span.start) × LieBetween (end_of run.span) b runs

-- Runs that say no more than before of the units up to a place, and then these ways of so many units.
pub record SayFurther (old new : List TrailRun) (p n : ℕ) (ways : List (List (ℕ × ℕ))) : Type 0 where
  pub lie : LieBetween 0 (p + n) new
  pub before : (q : ℕ) → q < p → trail_in new q ≡ trail_in old q
  pub here : map (trail_in new) (range_with_len p n) ≡ ways
