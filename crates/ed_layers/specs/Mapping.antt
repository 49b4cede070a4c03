-- Mapping spans and points between a version and the versions that it reaches.
use Rattle.std.specs.Prelude.{ℕ, zero, suc, ◌+◌, ◌-◌, Bool, true, false, List, length, nat_eq, nat_lt, slice_get, slice_range, position, Option, Some, None, option_map, option_and_then, if◌then◌else◌}
use Rattle.std.specs.Option.{option_map_or}
use Rattle.std.specs.List.{list_any}
use Rattle.ed_base.specs.declared.edit.Span.{Span}
use Rattle.ed_base.specs.declared.mode.Affinity.{Affinity}
use Rattle.ed_base.specs.Spans.{end_of, holds_place}
use Rattle.ed_layers.specs.Records.{Record, version_in}
use Rattle.ed_layers.specs.Cells.{Cell, cells, vector}
use Rattle.ed_base.specs.Runs.{runs}

-- the place of a cell in a buffer, if its path meets it
abbrev pub place_in : ℕ → Cell → Option ℕ
place_in b c = version_in c.places b

-- whether the cell has a place of the buffer that passes the test
abbrev pub has_place : ℕ → (ℕ → Bool) → Cell → Bool
has_place b test c = option_map_or test (place_in b c) false

-- The unit on the side that a point prefers, or on the other where the text has none there: its place, and whether it stands before the point.
abbrev pub unit_by : Affinity → ℕ → ℕ → Option (ℕ × Bool)
unit_by Affinity.Predecessor n zero = if nat_lt 0 n then Some (0, false) else None
unit_by Affinity.Predecessor n (suc p) = Some (p, true)
unit_by Affinity.Successor n p = if nat_lt p n then Some (p, false) else (if nat_lt 0 p then Some (p - 1, true) else None)

-- one past a unit that stands before, or the place of one that stands after
abbrev pub beside : Bool → ℕ → ℕ
beside before q = if before then q + 1 else q

module _ (record_at : ℕ → ℕ → Option Record) where
  -- the version of a buffer that a version reaches
  abbrev pub lower_version : ℕ → ℕ → ℕ → Option ℕ
  lower_version top v b = version_in (vector record_at top v) b

  -- the length of that version
  abbrev pub lower_len : ℕ → ℕ → ℕ → ℕ
  lower_len top v b = option_map_or (λ w. length (cells record_at b w)) (lower_version top v b) 0

  -- the places of the target that the cells of a span have
  abbrev pub down_span : ℕ → ℕ → Span → ℕ → List Span
  down_span top v span to = runs (λ q. list_any (has_place to (nat_eq q)) (slice_range (cells record_at top v) span.start (end_of span))) (lower_len top v to)

  -- the cells of the top that have a place in a span of a lower buffer
  abbrev pub up_span : ℕ → ℕ → Span → ℕ → List Span
  up_span top v span of_ = runs (λ k. option_map_or (has_place of_ (holds_place span)) (slice_get (cells record_at top v) k) false) (length (cells record_at top v))

  abbrev pub down_point : ℕ → ℕ → ℕ → Affinity → ℕ → Option ℕ
  down_point top v p side to = option_and_then (λ unit. option_map (beside unit.1) (option_and_then (place_in to) (slice_get (cells record_at top v) unit.0))) (unit_by side (length (cells record_at top v)) p)

  -- by the unit of the lower buffer, and its least place in the top
  abbrev pub up_point : ℕ → ℕ → ℕ → Affinity → ℕ → Option ℕ
  up_point top v p side of_ = option_and_then (λ unit. option_map (beside unit.1) (position (has_place of_ (nat_eq unit.0)) (cells record_at top v))) (unit_by side (lower_len top v of_) p)
