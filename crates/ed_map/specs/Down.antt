-- Mapping down by members: of a part of a text, told by its two ends, and of one place. What lies before or behind a member is cut away by subtraction.
use Rattle.std.specs.Prelude.{ℕ, zero, suc, ◌+◌, ◌-◌, List, [], ◌∷◌, ◌++◌, nat_eq, nat_lt, min, Option, Some, None, if◌then◌else◌}
use Rattle.std.specs.Option.{option_map_or}
use Rattle.ed_base.specs.declared.edit.Span.{Span}
use Rattle.ed_base.specs.declared.piece.Member.{Member}
use Rattle.ed_base.specs.Spans.{span_between}
use Rattle.ed_layers.specs.Records.{Record, members_of, member_len, sources_of, version_in}

-- ---- spans: `inner` maps the part of a source from one place to another

abbrev pub down_member : (ℕ → ℕ → ℕ → List Span) → Member → ℕ → ℕ → List Span
down_member inner (Member.Literal units) a z = []
down_member inner (Member.Tracked source bounds mode) a z = if nat_lt a (min z bounds.len) then inner source (bounds.start + a) (bounds.start + min z bounds.len) else []

-- the part from a to z of the members' text
abbrev pub down_members : (ℕ → ℕ → ℕ → List Span) → List Member → ℕ → ℕ → List Span
down_members inner [] a z = []
down_members inner (m ∷ ms) a z = down_member inner m a z ++ down_members inner ms (a - member_len m) (z - member_len m)

-- ---- places: `inner` maps a place of a source

abbrev pub place_member : (ℕ → ℕ → Option ℕ) → Member → ℕ → Option ℕ
place_member inner (Member.Literal units) k = None
place_member inner (Member.Tracked source bounds mode) k = inner source (bounds.start + k)

abbrev pub place_members : (ℕ → ℕ → Option ℕ) → List Member → ℕ → Option ℕ
place_members inner [] k = None
place_members inner (m ∷ ms) k = if nat_lt k (member_len m) then place_member inner m k else place_members inner ms (k - member_len m)

module _ (record_at : ℕ → ℕ → Option Record) where
  -- the images of the places from a to z, a part of the text of a version
  unfoldable pub down_within : ℕ → ℕ → ℕ → ℕ → ℕ → ℕ → List Span
  down_within zero to b v a z = []
  down_within (suc levels) to b v a z =
      if nat_eq b to then span_between a z ∷ []
      else option_map_or (λ r. down_members (λ source x y. option_map_or (λ w. down_within levels to source w x y) (version_in (sources_of r) source) []) (members_of r) a z) (record_at b v) []

  -- the place of the unit at a place
  unfoldable pub place_within : ℕ → ℕ → ℕ → ℕ → ℕ → Option ℕ
  place_within zero to b v k = None
  place_within (suc levels) to b v k =
      if nat_eq b to then Some k
      else option_map_or (λ r. place_members (λ source x. option_map_or (λ w. place_within levels to source w x) (version_in (sources_of r) source) None) (members_of r) k) (record_at b v) None
