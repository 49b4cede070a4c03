-- Projection buffers as contracts see them.
use Rattle.std.specs.Prelude.{◌≡◌, ℕ, ◌-◌, List, [], length, slice_get, slice_range, Option, Some, unwrap_or}
use Rattle.ed_base.specs.declared.piece.Member.{Member}
use Rattle.ed_base.specs.ChangeList.{ChangeList}
use Rattle.ed_base.specs.Spans.{end_of}
use Rattle.ed_layers.specs.Records.{Record, projection, members_len, placement}
use Rattle.ed_version.specs.declared.snapshot.Snapshot.{Snapshot}
use Rattle.ed_project.specs.declared.shown.Shown.{Shown}

-- The versions by number, the change list of each to the next, and how many more there is room for.
pub record Projection : Type 0 where
  pub buffer : ℕ
  pub versions : List Shown
  pub changes : List ChangeList
  pub resolver : Option (List ℕ)
  pub spare : ℕ

-- the version that comes next: what it shows, what leads to it, and its snapshot
pub record Next : Type 0 where
  pub members : List Member
  pub sources : List (ℕ × ℕ)
  pub changes : ChangeList
  pub snapshot : Snapshot

abbrev pub shown : List Member → List (ℕ × ℕ) → List ℕ → Shown
shown members sources text = record { members = members; sources = sources; text = text }

-- a version that is there
abbrev pub version_at : List Shown → ℕ → Shown
version_at versions v = unwrap_or (slice_get versions v) (shown [] [] [])

-- the current version
abbrev pub now : List Shown → ℕ
now versions = length versions - 1

abbrev pub shown_now : Projection → Shown
shown_now p = version_at p.versions (now p.versions)

-- the record of a version
abbrev pub record_of : Shown → Record
record_of s = projection s.members s.sources

-- a literal's units stand in the text where the literal lies
abbrev pub HasLiterals : List Member → List ℕ → Type 0
HasLiterals members text = (i : ℕ) (units : List ℕ) → slice_get members i ≡ Some (Member.Literal units) → slice_range text (placement members i).start (end_of (placement members i)) ≡ units

-- what a version shows: the text has as many units as the members, and those of the literals in their places
pub record IsShown (s : Shown) : Type 0 where
  pub long : length s.text ≡ members_len s.members
  pub literals : HasLiterals s.members s.text

-- the same but for room
pub record IsUnchanged (old new : Projection) : Type 0 where
  pub buffer : new.buffer ≡ old.buffer
  pub versions : new.versions ≡ old.versions
  pub changes : new.changes ≡ old.changes
  pub resolver : new.resolver ≡ old.resolver
