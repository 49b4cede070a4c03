-- Elision buffers as contracts see them.
use Rattle.std.specs.Prelude.{◌≡◌, ℕ, ◌-◌, ◌<◌, ◌^◌, Bool, List, [], ◌∷◌, length, slice_get, Option, unwrap_or}
use Rattle.ed_base.specs.declared.piece.Member.{Member}
use Rattle.ed_base.specs.ChangeList.{ChangeList, change_list, step, new_len}
use Rattle.ed_layers.specs.CarrierStep.{all_stay, carrier_step}
use Rattle.ed_layers.specs.Hidden.{nearest}
use Rattle.ed_layers.specs.Records.{Record, elision, members_of, members_len}
use Rattle.ed_layers.specs.SourceStep.{SourceStep}
use Rattle.ed_layers.specs.Texts.{text_over}
use Rattle.ed_version.specs.declared.snapshot.Snapshot.{Snapshot}
use Rattle.ed_elide.specs.declared.version.ElisionVersion.{ElisionVersion}

-- The source, the versions by number, the change list of each to the next, and how many more there is room for.
pub record Elision : Type 0 where
  pub buffer : ℕ
  pub source : ℕ
  pub versions : List ElisionVersion
  pub changes : List ChangeList
  pub resolver : Option (List ℕ)
  pub spare : ℕ

-- the version that comes next: what it shows, what leads to it, and its snapshot
pub record Next : Type 0 where
  pub source : ℕ
  pub hidden : List Bool
  pub version : ℕ
  pub members : List Member
  pub sources : List (ℕ × ℕ)
  pub changes : ChangeList
  pub snapshot : Snapshot

abbrev pub shown : List Bool → ℕ → List Member → List (ℕ × ℕ) → List ℕ → ElisionVersion
shown hidden version members sources text = record { hidden = hidden; version = version; members = members; sources = sources; text = text }

-- what is shown of a source with this text, at this version
abbrev pub shown_of : List Bool → ℕ → ℕ → List ℕ → ElisionVersion
shown_of hidden source version text = shown hidden version (members_of (elision hidden source version)) ((source, version) ∷ []) (text_over (λ b. text) (members_of (elision hidden source version)))

-- a version that is there
abbrev pub version_at : List ElisionVersion → ℕ → ElisionVersion
version_at versions v = unwrap_or (slice_get versions v) (shown [] 0 [] [] [])

-- the current version
abbrev pub now : List ElisionVersion → ℕ
now versions = length versions - 1

abbrev pub shown_now : Elision → ElisionVersion
shown_now e = version_at e.versions (now e.versions)

-- the record of a version, and of the one that comes next
abbrev pub record_of : ℕ → ElisionVersion → Record
record_of source s = elision s.hidden source s.version

abbrev pub record_next : Next → Record
record_next n = elision n.hidden n.source n.version

-- its members and the version that it names, as its record has them
pub record IsOfRecord (n : Next) : Type 0 where
  pub members : n.members ≡ members_of (record_next n)
  pub sources : n.sources ≡ (n.source, n.version) ∷ []

-- what is kept beside the hidden places of a version agrees with them
pub record IsShown (source : ℕ) (s : ElisionVersion) : Type 0 where
  pub members : s.members ≡ members_of (record_of source s)
  pub sources : s.sources ≡ (source, s.version) ∷ []
  pub long : length s.text ≡ members_len s.members
  pub near : length s.text ≡ nearest s.hidden (length s.hidden)

-- the same but for room
pub record IsUnchanged (old new : Elision) : Type 0 where
  pub buffer : new.buffer ≡ old.buffer
  pub source : new.source ≡ old.source
  pub versions : new.versions ≡ old.versions
  pub changes : new.changes ≡ old.changes
  pub resolver : new.resolver ≡ old.resolver

-- The changes are those of the carrier's step from the current version to the next, and they make that step.
pub record IsStep (steps : ℕ → Option SourceStep) (e : Elision) (n : Next) : Type 0 where
  pub changes : n.changes ≡ change_list (carrier_step all_stay steps (record_of e.source (shown_now e)) (record_next n)) n.snapshot.text
  pub step : step n.changes ≡ carrier_step all_stay steps (record_of e.source (shown_now e)) (record_next n)

-- the step can be made on this state: there is room, and a number
pub record IsPlanned (e : Elision) (n : Next) : Type 0 where
  pub room : 0 < e.spare
  pub number : length e.versions < 2 ^ 32 - 1
  pub source : n.source ≡ e.source
  pub buffer : n.snapshot.buffer ≡ e.buffer
  pub version : n.snapshot.version ≡ length e.versions
  pub from : n.changes.old_len ≡ length (shown_now e).text
  pub to : new_len n.changes ≡ length n.snapshot.text
  pub shown : IsShown e.source (shown n.hidden n.version n.members n.sources n.snapshot.text)
