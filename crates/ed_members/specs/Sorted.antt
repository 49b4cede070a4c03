-- Members in order: by source, then by start, length and index; literals first.
use Rattle.std.specs.Prelude.{◌≡◌, ℕ, ◌+◌, ◌<◌, ◌⊎◌, List, length, slice_get, slice_index, Option, Some, None}
use Rattle.ed_base.specs.declared.piece.Member.{Member}

-- what they are ordered by
abbrev pub Key : Type 0
Key = ℕ × ℕ × ℕ × ℕ

abbrev pub source_key : Member → ℕ
source_key (Member.Literal units) = 0
source_key (Member.Tracked source bounds mode) = source + 1

abbrev pub key_of : Option Member → ℕ → Key
key_of None i = (0, 0, 0, i)
key_of (Some (Member.Literal units)) i = (0, 0, 0, i)
key_of (Some (Member.Tracked source bounds mode)) i = (source + 1, bounds.start, bounds.len, i)

-- one after another
abbrev pub Precedes : Key → Key → Type 0
Precedes a b = (a.0 < b.0) ⊎ ((a.0 ≡ b.0) × ((a.1 < b.1) ⊎ ((a.1 ≡ b.1) × ((a.2 < b.2) ⊎ ((a.2 ≡ b.2) × (a.3 < b.3))))))

-- The members with these indices, each before all that follow.
pub record AreSorted (members : List Member) (order : List ℕ) : Type 0 where
  pub each : (p q : ℕ) → p < q → q < length order
      → Precedes (key_of (slice_get members (slice_index order p)) (slice_index order p)) (key_of (slice_get members (slice_index order q)) (slice_index order q))
