-- Where members lie on their sources.
use Rattle.std.specs.Prelude.{ℕ, ◌+◌, Bool, false, not, ◌&&◌, ◌||◌, List, nat_eq, nat_le, min, max, slice_get, Option, Some, None, if◌then◌else◌}
use Rattle.ed_base.specs.declared.piece.Member.{Member}
use Rattle.ed_base.specs.Spans.{end_of}
use Rattle.ed_layers.specs.Order.{is_inclusive}
use Rattle.ed_members.specs.declared.sweeps.Reach.{Reach}

abbrev pub reach_of : Member → Reach
reach_of (Member.Literal units) = record { source = 0; start = 0; end = 0; whole = false }
reach_of (Member.Tracked source bounds mode) = record { source = source + 1; start = bounds.start; end = end_of bounds; whole = is_inclusive mode }

abbrev pub reach_if : Option Member → Reach
reach_if None = record { source = 0; start = 0; end = 0; whole = false }
reach_if (Some m) = reach_of m

-- of the member with this index
abbrev pub reach_at : List Member → ℕ → Reach
reach_at members i = reach_if (slice_get members i)

-- whether they are of two sources, or neither is to cover its source and the first ends no later than the second starts
abbrev pub are_clear : Reach → Reach → Bool
are_clear a b = not (nat_eq a.source b.source) || (not a.whole && not b.whole && nat_le a.end b.start)

-- the least range that has both, where they are of one source, and else the second
abbrev pub spanning : Reach → Reach → Reach
spanning a b = if nat_eq a.source b.source then record { source = b.source; start = min a.start b.start; end = max a.end b.end; whole = a.whole || b.whole } else b
