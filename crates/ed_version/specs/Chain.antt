-- The versions of a buffer.
use Rattle.std.specs.Prelude.{◌≡◌, ◌⊎◌, ℕ, ◌-◌, ◌<◌, ◌≤◌, List, [], ◌∷◌, length, map, slice_get, option_map, unwrap_or}
use Rattle.ed_base.specs.ChangeList.{ChangeList}
use Rattle.ed_version.specs.declared.chain.Version.{Version}
use Rattle.ed_version.specs.declared.snapshot.Snapshot.{Snapshot}

-- The versions by number, the change list of each to the next, and how many more there is room for.
pub record Chain : Type 0 where
  pub buffer : ℕ
  pub versions : List Version
  pub changes : List ChangeList
  pub spare : ℕ

abbrev pub version : List ℕ → ℕ → Version
version text reiterated = record { text = text; reiterated = reiterated }

-- the texts by version
abbrev pub texts : List Version → List (List ℕ)
texts versions = map (λ v. v.text) versions

-- the text of a version, and the version that it repeats
abbrev pub text_at : List Version → ℕ → List ℕ
text_at versions v = unwrap_or (option_map (λ x. x.text) (slice_get versions v)) []

abbrev pub reiterated_at : List Version → ℕ → ℕ
reiterated_at versions v = unwrap_or (option_map (λ x. x.reiterated) (slice_get versions v)) v

-- the current version, and its text
abbrev pub now : List Version → ℕ
now versions = length versions - 1

abbrev pub text_now : List Version → List ℕ
text_now versions = text_at versions (now versions)

-- a first version, which repeats itself
abbrev pub opening : List ℕ → List Version
opening text = version text 0 ∷ []

-- an earlier version with this text, which repeats itself
abbrev pub IsOriginal : List Version → List ℕ → ℕ → Type 0
IsOriginal versions text r = (r < length versions) × (text_at versions r ≡ text) × (reiterated_at versions r ≡ r)

-- what the version that comes next may repeat: itself, or an earlier one of the same text that repeats itself
abbrev pub MayRepeat : List Version → List ℕ → ℕ → Type 0
MayRepeat versions text r = (r ≡ length versions) ⊎ IsOriginal versions text r

-- each version repeats itself or an earlier one of the same text that repeats itself
abbrev pub AreRepeating : List Version → Type 0
AreRepeating versions = (v : ℕ) → v < length versions → (reiterated_at versions v ≤ v) × IsOriginal versions (text_at versions v) (reiterated_at versions v)

abbrev pub snapshot_of : Chain → ℕ → Snapshot
snapshot_of c v = record { buffer = c.buffer; version = v; text = text_at c.versions v }

-- the same but for room
pub record IsSame (old new : Chain) : Type 0 where
  pub buffer : new.buffer ≡ old.buffer
  pub versions : new.versions ≡ old.versions
  pub changes : new.changes ≡ old.changes
