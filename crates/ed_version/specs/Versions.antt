-- What is kept of the versions of a buffer of any kind.
use Rattle.std.specs.Prelude.{◌≡◌, ℕ, ◌-◌, List, [], ◌∷◌, length, slice_get, option_map, unwrap_or}
use Rattle.ed_base.specs.ChangeList.{ChangeList, new_len}

-- The versions by number, the change list of each to the next, and how many more there is room for.
pub record Versions (V : Type 0) : Type 0 where
  pub buffer : ℕ
  pub versions : List V
  pub changes : List ChangeList
  pub spare : ℕ

-- the current version
abbrev pub now : {V : Type 0} → List V → ℕ
now versions = length versions - 1

-- the text of a version, and the current one
abbrev pub text_at : {V : Type 0} → (V → List ℕ) → List V → ℕ → List ℕ
text_at text versions v = unwrap_or (option_map text (slice_get versions v)) []

abbrev pub text_now : {V : Type 0} → (V → List ℕ) → List V → List ℕ
text_now text versions = text_at text versions (now versions)

-- each change list leads from the length of one text to the length of the next
abbrev pub Lead : {V : Type 0} → (V → List ℕ) → List V → List ChangeList → Type 0
Lead text [] changes = ⊥
Lead text (v ∷ []) [] = Unit {0}
Lead text (v ∷ []) (c ∷ cs) = ⊥
Lead text (v ∷ w ∷ vs) [] = ⊥
Lead text (v ∷ w ∷ vs) (c ∷ cs) = (c.old_len ≡ length (text v)) × (new_len c ≡ length (text w)) × Lead text (w ∷ vs) cs

-- the same but for room
pub record IsSame {V : Type 0} (old new : Versions V) : Type 0 where
  pub buffer : new.buffer ≡ old.buffer
  pub versions : new.versions ≡ old.versions
  pub changes : new.changes ≡ old.changes
