-- Mapping up by members: of a span of a lower buffer, and of one unit of it.
use Rattle.std.specs.Prelude.{ℕ, zero, suc, ◌+◌, ◌-◌, ◌&&◌, List, [], ◌∷◌, ◌++◌, flat_map, nat_eq, nat_le, nat_lt, max, min, Option, Some, None, option_map, if◌then◌else◌}
use Rattle.std.specs.Option.{option_map_or}
use Rattle.ed_base.specs.declared.edit.Span.{Span}
use Rattle.ed_base.specs.declared.piece.Member.{Member}
use Rattle.ed_base.specs.Numbers.{or_else}
use Rattle.ed_base.specs.Spans.{end_of, span_between}
use Rattle.ed_layers.specs.Records.{Record, members_of, member_len, sources_of, version_in}

-- ---- spans: `inner` has the images in a source

-- what the bounds have of an image, where the member stands at a place
abbrev pub cut_to : Span → ℕ → Span → List Span
cut_to bounds at s = if nat_lt (max s.start bounds.start) (min (end_of s) (end_of bounds)) then span_between (at + (max s.start bounds.start - bounds.start)) (at + (min (end_of s) (end_of bounds) - bounds.start)) ∷ [] else []

abbrev pub up_member : (ℕ → List Span) → Member → ℕ → List Span
up_member inner (Member.Literal units) at = []
up_member inner (Member.Tracked source bounds mode) at = flat_map (cut_to bounds at) (inner source)

abbrev pub up_members : (ℕ → List Span) → List Member → ℕ → List Span
up_members inner [] at = []
up_members inner (m ∷ ms) at = up_member inner m at ++ up_members inner ms (at + member_len m)

-- ---- units: the first place of one, told from where a part begins; `inner` has the first in a part of a source

abbrev pub first_member : (ℕ → ℕ → ℕ → Option ℕ) → Member → ℕ → ℕ → Option ℕ
first_member inner (Member.Literal units) a z = None
first_member inner (Member.Tracked source bounds mode) a z = if nat_lt a (min z bounds.len) then inner source (bounds.start + a) (bounds.start + min z bounds.len) else None

-- the first in the part from a to z, counted from a
abbrev pub first_members : (ℕ → ℕ → ℕ → Option ℕ) → List Member → ℕ → ℕ → Option ℕ
first_members inner [] a z = None
first_members inner (m ∷ ms) a z = or_else (first_member inner m a z) (option_map (λ k. min z (member_len m) - a + k) (first_members inner ms (a - member_len m) (z - member_len m)))

module _ (record_at : ℕ → ℕ → Option Record) where
  -- where a version shows what lies in a span of a lower buffer
  unfoldable pub up_within : ℕ → ℕ → Span → ℕ → ℕ → List Span
  up_within zero of_ span b v = []
  up_within (suc levels) of_ span b v =
      if nat_eq b of_ then span ∷ []
      else option_map_or (λ r. up_members (λ source. option_map_or (λ w. up_within levels of_ span source w) (version_in (sources_of r) source) []) (members_of r) 0) (record_at b v) []

  -- where a version first shows a unit of a lower buffer, in a part of its text and counted from there
  unfoldable pub first_within : ℕ → ℕ → ℕ → ℕ → ℕ → ℕ → ℕ → Option ℕ
  first_within zero of_ q b v a z = None
  first_within (suc levels) of_ q b v a z =
      if nat_eq b of_ then (if nat_le a q && nat_lt q z then Some (q - a) else None)
      else option_map_or (λ r. first_members (λ source x y. option_map_or (λ w. first_within levels of_ q source w x y) (version_in (sources_of r) source) None) (members_of r) a z) (record_at b v) None
