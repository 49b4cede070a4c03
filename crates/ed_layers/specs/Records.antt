-- The records of versions. A base has a text. A carrier, a projection or an elision buffer, has members and names versions of its sources, and has no text of its own.
use Rattle.std.specs.Prelude.{ℕ, Bool, true, false, not, List, [], ◌∷◌, length, map, nat_eq, sum_by, take, slice_get, Option, Some, None, unwrap_or, if◌then◌else◌}
use Rattle.std.specs.Option.{option_map_or}
use Rattle.ed_base.specs.declared.edit.Span.{Span}
use Rattle.ed_base.specs.declared.mode.SpanMode.{SpanMode}
use Rattle.ed_base.specs.declared.piece.Member.{Member}
use Rattle.ed_base.specs.Runs.{runs}

pub data Record : Type 0 where
  -- a text, and the reiterated number
  base : List ℕ → ℕ → Record
  -- members, and the version of each source
  projection : List Member → List (ℕ × ℕ) → Record
  -- for each place of the source whether it is hidden; the source and its version
  elision : List Bool → ℕ → ℕ → Record

-- whether the place is hidden
abbrev pub is_hidden : List Bool → ℕ → Bool
is_hidden flags p = unwrap_or (slice_get flags p) false

abbrev pub is_shown : List Bool → ℕ → Bool
is_shown flags p = option_map_or not (slice_get flags p) false

abbrev pub tracked : ℕ → Span → Member
tracked source bounds = Member.Tracked source bounds SpanMode.EdgeExclusive

-- The members of a record. Those of an elision buffer are the maximal shown runs.
abbrev pub members_of : Record → List Member
members_of (base text reiterated) = []
members_of (projection members sources) = members
members_of (elision flags source version) = map (tracked source) (runs (is_shown flags) (length flags))

-- the versions that a record names
abbrev pub sources_of : Record → List (ℕ × ℕ)
sources_of (base text reiterated) = []
sources_of (projection members sources) = sources
sources_of (elision flags source version) = (source, version) ∷ []

-- the version at which a buffer stands in a list of versions
abbrev pub version_in : List (ℕ × ℕ) → ℕ → Option ℕ
version_in [] b = None
version_in (v ∷ vs) b = if nat_eq v.0 b then Some v.1 else version_in vs b

abbrev pub is_carrier : Record → Bool
is_carrier (base text reiterated) = false
is_carrier (projection members sources) = true
is_carrier (elision flags source version) = true

abbrev pub is_elision : Record → Bool
is_elision (base text reiterated) = false
is_elision (projection members sources) = false
is_elision (elision flags source version) = true

-- ---- members

abbrev pub is_tracked : Member → Bool
is_tracked (Member.Literal units) = false
is_tracked (Member.Tracked source bounds mode) = true

abbrev pub member_len : Member → ℕ
member_len (Member.Literal units) = length units
member_len (Member.Tracked source bounds mode) = bounds.len

-- where the member of this index lies in the text of its carrier
abbrev pub placement : List Member → ℕ → Span
placement members i = record { start = sum_by member_len (take i members); len = option_map_or member_len (slice_get members i) 0 }

abbrev pub members_len : List Member → ℕ
members_len members = sum_by member_len members
