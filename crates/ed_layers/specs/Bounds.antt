-- Where a member lies after its source stepped.
use Rattle.std.specs.Prelude.{ℕ, Bool, false, ◌&&◌, ◌||◌, List, [], ◌∷◌, map, filter, find, nat_eq, min, Option, option_map, option_and_then, unwrap_or, is_some, if◌then◌else◌}
use Rattle.std.specs.Option.{option_map_or}
use Rattle.std.specs.List.{enumerate_from, list_all}
use Rattle.ed_base.specs.declared.edit.Span.{Span}
use Rattle.ed_base.specs.declared.mode.SpanMode.{SpanMode}
use Rattle.ed_base.specs.declared.piece.Member.{Member}
use Rattle.ed_base.specs.Spans.{holds_place, span_between}
use Rattle.ed_base.specs.Tracking.{positive_edge}
use Rattle.ed_layers.specs.Order.{is_inclusive, stands_before}
use Rattle.ed_base.specs.Runs.{least_range}
use Rattle.ed_layers.specs.SourceStep.{SourceStep, trail_at, ends_with, kept_from}

-- a tracked member of one source, with its index
pub record Placed : Type 0 where
  pub index : ℕ
  pub bounds : Span

-- whether the member holds the unit at the new place: it held it before, or the unit was sent through it
abbrev pub holds : ℕ → SourceStep → Placed → ℕ → Bool
holds carrier s m q = option_map_or (holds_place m.bounds) (kept_from s.step q) false || ends_with carrier (nat_eq m.index) (trail_at s q)

-- the least range of all that the member holds, if it holds anything
abbrev pub held_range : ℕ → SourceStep → Placed → Option Span
held_range carrier s m = least_range (holds carrier s m) s.step.new_len

-- the members that come after this one in the order on the source
abbrev pub comes_after : Placed → Placed → Bool
comes_after m n = stands_before (m.index, m.bounds) (n.index, n.bounds)

-- the first in that order
abbrev pub first_of : List Placed → Option Placed
first_of ms = find (λ m. list_all (λ n. nat_eq n.index m.index || comes_after m n) ms) ms

-- the new start of the next member that holds something
abbrev pub next_start : ℕ → SourceStep → List Placed → Placed → Option ℕ
next_start carrier s all m = option_and_then (λ n. option_map (λ r. r.start) (held_range carrier s n)) (first_of (filter (λ n. comes_after m n && is_some (held_range carrier s n)) all))

-- A member that holds nothing is empty where its start goes, or before the next member that holds something.
abbrev pub empty_place : ℕ → SourceStep → List Placed → Placed → ℕ
empty_place carrier s all m = option_map_or (min (positive_edge s.step m.bounds.start)) (next_start carrier s all m) (positive_edge s.step m.bounds.start)

-- the new bounds of a member among all on its source
unfoldable pub new_bounds : ℕ → SourceStep → List Placed → SpanMode → Placed → Span
new_bounds carrier s all mode m =
    if is_inclusive mode then span_between 0 s.step.new_len
    else unwrap_or (held_range carrier s m) (span_between (empty_place carrier s all m) (empty_place carrier s all m))

-- the tracked members on a source
abbrev pub placed_on : ℕ → List (ℕ × Member) → List Placed
placed_on source [] = []
placed_on source ((i, Member.Literal units) ∷ ms) = placed_on source ms
placed_on source ((i, Member.Tracked from bounds mode) ∷ ms) = if nat_eq from source then record { index = i; bounds = bounds } ∷ placed_on source ms else placed_on source ms

-- A member after the steps of the sources. A source that didn't step has none.
abbrev pub member_after : ℕ → (ℕ → Option SourceStep) → List Member → ℕ × Member → Member
member_after carrier steps members (i, Member.Literal units) = Member.Literal units
member_after carrier steps members (i, Member.Tracked source bounds mode) =
    Member.Tracked source (option_map_or (λ s. new_bounds carrier s (placed_on source (enumerate_from 0 members)) mode (record { index = i; bounds = bounds })) (steps source) bounds) mode

abbrev pub members_after : ℕ → (ℕ → Option SourceStep) → List Member → List Member
members_after carrier steps members = map (member_after carrier steps members) (enumerate_from 0 members)
