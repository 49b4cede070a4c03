-- What a buffer needs to go along with moves of its sources, and what it gives.
use Rattle.std.specs.Prelude.{◌≡◌, ℕ, ◌≤◌, ◌^◌, List, length, All, Result, IfOk, Option, MatchOption, unwrap_or}
use Rattle.std.specs.Option.{option_map_or}
use Rattle.ed_base.specs.declared.Member.{Member}
use Rattle.ed_layers.specs.Bounds.{members_after}
use Rattle.ed_layers.specs.CarrierStep.{all_stay}
use Rattle.ed_layers.specs.Hidden.{flags_after}
use Rattle.ed_layers.specs.Records.{Record, base, projection, elision, members_len, members_of, version_in}
use Rattle.ed_layers.specs.SourceStep.{SourceStep}
use Rattle.ed_members.specs.Moving.{EndsInOld, OwnInside, OwnInOrder}
use Rattle.ed_project.specs.Planning.{Answers, EndsWithin, too_long}
use Rattle.ed_project.specs.Texts.{HasSource, found_text, versions_of}
use Rattle.ed_project.specs.declared.ProjectionFault.{ProjectionFault}
use Rattle.ed_version.specs.declared.Snapshot.{Snapshot}
use Rattle.ed_held.specs.declared.held.Held.{Held}
use Rattle.ed_held.specs.declared.moves.Planned.{Planned}
use Rattle.ed_held.specs.Following.{Follows}
use Rattle.ed_held.specs.Moves.{CanMake}
use Rattle.ed_held.specs.Seen.{Known, known, last_of}

-- with these steps of the sources, and these snapshots of them, members can go along
pub record CanAdvance (b : ℕ) (steps : ℕ → Option SourceStep) (sources : List Snapshot) (members : List Member) : Type 0 where
  pub within : All (EndsInOld steps) members
  pub inside : OwnInside b steps members
  pub order : OwnInOrder b steps members
  pub there : All (HasSource steps sources) members

-- the flags are of the units that the source had, and its snapshot has those that it has now, no more than a text may have
abbrev pub AreOfSource : (ℕ → Option SourceStep) → ℕ → ℕ → List ℕ → Type 0
AreOfSource steps source n text = (length text ≤ 2 ^ 22) × MatchOption (steps source) (n ≡ length text) (λ x. (x.step.old_len ≡ n) × (x.step.new_len ≡ length text))

-- the same of a record, whatever the kind of its buffer; a base stands on nothing
abbrev pub CanGoOn : ℕ → (ℕ → Option SourceStep) → List Snapshot → Record → Type 0
CanGoOn b steps sources (base text reiterated) = ⊥
CanGoOn b steps sources (projection members versions) = CanAdvance b steps sources members
CanGoOn b steps sources (elision flags source version) = MatchOption (found_text sources source) ⊥ (AreOfSource steps source (length flags))

-- the record that comes next, over these versions of the sources
abbrev pub next_of : ℕ → (ℕ → Option SourceStep) → List (ℕ × ℕ) → Record → Record
next_of b steps versions (base text reiterated) = base text reiterated
next_of b steps versions (projection members sources) = projection (members_after b steps members) versions
next_of b steps versions (elision flags source version) = elision (option_map_or (λ x. flags_after b x flags) (steps source) flags) source (unwrap_or (version_in versions source) version)

abbrev pub record_then : (ℕ → Option SourceStep) → List Snapshot → Known → Record
record_then steps sources k = next_of k.number steps (versions_of sources) (last_of k.buffer)

-- what an answer says: the buffer is as it was but for room, and has room for the version that is answered
pub record Advances (steps : ℕ → Option SourceStep) (sources : List Snapshot) (old new : Held) (result : Result Planned ProjectionFault) : Type 0 where
  pub same : known new ≡ known old
  pub within : EndsWithin steps (members_of (record_then steps sources (known old))) result
  pub fault : Answers (too_long (members_len (members_of (record_then steps sources (known old))))) result
  pub next : IfOk result (Follows all_stay steps sources (known old) (record_then steps sources (known old)))
  pub made : IfOk result (CanMake new)
