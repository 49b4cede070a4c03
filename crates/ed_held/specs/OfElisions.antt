-- Elision buffers that go along with their source, or hide other places.
use Rattle.std.specs.Prelude.{◌≡◌, ℕ, List, [], ◌∷◌, Result, IfOk, Option, Some, None, nat_eq, if◌then◌else◌}
use Rattle.ed_base.specs.declared.OutOfMemory.{OutOfMemory}
use Rattle.ed_elide.specs.Records.{Elision, Next, IsPlanned, IsStep, IsUnchanged, record_next}
use Rattle.ed_layers.specs.Records.{Record, members_of}
use Rattle.ed_layers.specs.SourceStep as layers
use Rattle.ed_members.specs.declared.steps.SourceStep.{SourceStep}
use Rattle.ed_project.specs.Texts.{text_in, text_over}
use Rattle.ed_version.specs.declared.Snapshot.{Snapshot}

-- the snapshot of a buffer among these, and its step
abbrev pub found_snapshot : List Snapshot → ℕ → Option Snapshot
found_snapshot [] b = None
found_snapshot (s ∷ ss) b = if nat_eq s.buffer b then Some s else found_snapshot ss b

abbrev pub found_step : List SourceStep → ℕ → Option SourceStep
found_step [] b = None
found_step (s ∷ ss) b = if nat_eq s.source b then Some s else found_step ss b

-- the version has this record over these snapshots
pub record Hides (steps : ℕ → Option layers.SourceStep) (sources : List Snapshot) (e : Elision) (r : Record) (n : Next) : Type 0 where
  pub record_is : record_next n ≡ r
  pub text : n.snapshot.text ≡ text_over (text_in sources) (members_of r)
  pub step : IsStep steps e n

-- what an answer says: the elision buffer is as it was but for room, and has room for the version that is answered
pub record GoesHidden (steps : ℕ → Option layers.SourceStep) (sources : List Snapshot) (old new : Elision) (r : Record) (result : Result Next OutOfMemory) : Type 0 where
  pub same : IsUnchanged old new
  pub next : IfOk result (Hides steps sources old r)
  pub planned : IfOk result (IsPlanned new)
