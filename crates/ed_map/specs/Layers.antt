-- What a mapping needs of the records of versions.
use Rattle.std.specs.Prelude.{◌≡◌, ℕ, ◌<◌, ◌≤◌, ◌^◌, All, List, [], ◌∷◌, length, nat_eq, false, Option, Some}
use Rattle.ed_base.specs.declared.edit.Span.{Span}
use Rattle.ed_base.specs.declared.piece.Member.{Member}
use Rattle.ed_base.specs.Spans.{end_of}
use Rattle.ed_layers.specs.Records.{Record, base, projection, elision, members_of, members_len, sources_of, version_in}
use Rattle.ed_layers.specs.Mapping.{lower_version}

-- the length of the text of a version
abbrev pub record_len : Record → ℕ
record_len (base text reiterated) = length text
record_len (projection members sources) = members_len members
record_len (elision flags source version) = members_len (members_of (elision flags source version))

-- what holds of the source and the bounds of each tracked member
abbrev pub EachTracked : (ℕ → Span → Type 0) → List Member → Type 0
EachTracked P [] = Unit {0}
EachTracked P (Member.Literal units ∷ ms) = EachTracked P ms
EachTracked P (Member.Tracked source bounds mode ∷ ms) = P source bounds × EachTracked P ms

-- a tracked member's bounds end below 2^32
abbrev pub EndsShort : Member → Type 0
EndsShort (Member.Literal units) = Unit {0}
EndsShort (Member.Tracked source bounds mode) = end_of bounds < 2 ^ 32

module _ (record_at : ℕ → ℕ → Option Record) (rank : ℕ → ℕ → ℕ) where
  -- a version of the source that is there, of a smaller rank, in whose text the bounds lie
  pub record Stands (top : ℕ) (sources : List (ℕ × ℕ)) (source : ℕ) (bounds : Span) : Type 0 where
    pub version : ℕ
    pub inner : Record
    pub named : version_in sources source ≡ Some version
    pub there : record_at source version ≡ Some inner
    pub lower : rank source version < top
    pub inside : end_of bounds ≤ record_len inner

  -- a version that is there, of a smaller rank
  pub record IsLower (top : ℕ) (w : ℕ × ℕ) : Type 0 where
    pub inner : Record
    pub there : record_at w.0 w.1 ≡ Some inner
    pub lower : rank w.0 w.1 < top

  -- Each version that is there has a rank of at most 8 and a text of at most 2^22 units. It names versions of smaller rank that are there, and among them one of each member's source, in whose text the member's bounds lie.
  pub record AreLayers : Type 0 where
    pub low : (b v : ℕ) (r : Record) → record_at b v ≡ Some r → rank b v ≤ 8
    pub short : (b v : ℕ) (r : Record) → record_at b v ≡ Some r → record_len r ≤ 2 ^ 22
    pub named : (b v : ℕ) (r : Record) → record_at b v ≡ Some r → All (IsLower (rank b v)) (sources_of r)
    pub fit : (b v : ℕ) (r : Record) → record_at b v ≡ Some r → EachTracked (Stands (rank b v) (sources_of r)) (members_of r)

-- a version reaches each buffer at one version, by whatever path
module _ (record_at : ℕ → ℕ → Option Record) where
  pub record OneVersion : Type 0 where
    pub one : (b v : ℕ) (r : Record) (source w to x : ℕ) → record_at b v ≡ Some r → version_in (sources_of r) source ≡ Some w → nat_eq b to ≡ false → lower_version record_at source w to ≡ Some x → lower_version record_at b v to ≡ Some x
