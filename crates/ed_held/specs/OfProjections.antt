-- Projections that go along with their sources, or show other members.
use Rattle.std.specs.Prelude.{◌≡◌, ℕ, List, length, Result, IfOk, Option}
use Rattle.ed_base.specs.declared.Member.{Member}
use Rattle.ed_base.specs.declared.OutOfMemory.{OutOfMemory}
use Rattle.ed_layers.specs.Bounds.{members_after}
use Rattle.ed_layers.specs.CarrierStep.{all_stay, stay_around}
use Rattle.ed_layers.specs.Records.{members_len}
use Rattle.ed_layers.specs.SourceStep.{SourceStep}
use Rattle.ed_project.specs.Planning.{Answers, EndsWithin, IsPlanned, IsStep, added_in, too_long}
use Rattle.ed_project.specs.Records.{Projection, Next, IsUnchanged, shown_now}
use Rattle.ed_project.specs.Texts.{no_steps, text_in, text_over, versions_of}
use Rattle.ed_project.specs.declared.ProjectionFault.{ProjectionFault}
use Rattle.ed_version.specs.declared.Snapshot.{Snapshot}

-- the members that come next
abbrev pub members_next : (ℕ → Option SourceStep) → Projection → List Member
members_next steps p = members_after p.buffer steps (shown_now p).members

-- the version shows these members over these snapshots
pub record Shows (stays : ℕ → Option ℕ) (steps : ℕ → Option SourceStep) (sources : List Snapshot) (p : Projection) (list : List Member) (n : Next) : Type 0 where
  pub members : n.members ≡ list
  pub versions : n.sources ≡ versions_of sources
  pub text : n.snapshot.text ≡ text_over (text_in sources) n.members
  pub step : IsStep stays steps p n

-- what an answer says: the projection is as it was but for room, and has room for the version that is answered
pub record GoesAlong (steps : ℕ → Option SourceStep) (sources : List Snapshot) (old new : Projection) (result : Result Next ProjectionFault) : Type 0 where
  pub same : IsUnchanged old new
  pub within : EndsWithin steps (members_next steps old) result
  pub fault : Answers (too_long (members_len (members_next steps old))) result
  pub next : IfOk result (Shows all_stay steps sources old (members_next steps old))
  pub planned : IfOk result (IsPlanned new)

pub record Respans (sources : List Snapshot) (old new : Projection) (first removed : ℕ) (members : List Member) (result : Result Next OutOfMemory) : Type 0 where
  pub same : IsUnchanged old new
  pub next : IfOk result (Shows (stay_around first removed (length (added_in first removed (shown_now old).members members))) no_steps sources old members)
  pub planned : IfOk result (IsPlanned new)
