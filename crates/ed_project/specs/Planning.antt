-- Planning and making a version of a projection.
use Rattle.std.specs.Prelude.{◌≡◌, ◌⊎◌, ℕ, ◌+◌, ◌-◌, ◌<◌, ◌^◌, Result, Ok, Err, List, length, nat_lt, slice_range, All, Option, Some, None, if◌then◌else◌}
use Rattle.ed_base.specs.declared.piece.Member.{Member}
use Rattle.ed_base.specs.ChangeList.{ChangeList, change_list, step, new_len}
use Rattle.ed_layers.specs.Records.{Record, projection, members_len}
use Rattle.ed_layers.specs.SourceStep.{SourceStep}
use Rattle.ed_layers.specs.CarrierStep.{carrier_step}
use Rattle.ed_members.specs.Moving.{EndsInNew}
use Rattle.ed_project.specs.declared.fault.ProjectionFault.{ProjectionFault}
use Rattle.ed_project.specs.declared.shown.Shown.{Shown}
use Rattle.ed_project.specs.Records.{Projection, Next, shown_now, record_of}

-- more units than a text may have
abbrev pub too_long : ℕ → Option ProjectionFault
too_long n = if nat_lt (2 ^ 22) n then Some (ProjectionFault.Units n) else None

-- an answer that is this fault where there is one, and no other; want of memory is free
abbrev pub Answers : {X : Type 0} → Option ProjectionFault → Result X ProjectionFault → Type 0
Answers (Some fault) (Ok x) = ⊥
Answers (Some fault) (Err e) = (e ≡ fault) ⊎ (e ≡ ProjectionFault.OutOfMemory)
Answers None (Ok x) = Unit {0}
Answers None (Err e) = e ≡ ProjectionFault.OutOfMemory

-- the record of what comes next
abbrev pub record_next : Next → Record
record_next n = projection n.members n.sources

-- The changes are those of the carrier's step from the current version to the next, and they make that step.
pub record IsStep (stays : ℕ → Option ℕ) (steps : ℕ → Option SourceStep) (p : Projection) (n : Next) : Type 0 where
  pub changes : n.changes ≡ change_list (carrier_step stays steps (record_of (shown_now p)) (record_next n)) n.snapshot.text
  pub step : step n.changes ≡ carrier_step stays steps (record_of (shown_now p)) (record_next n)

-- what leads from what is shown to what is shown next: the carrier's step as its change list, with the lengths of both texts
pub record IsNext (stays : ℕ → Option ℕ) (steps : ℕ → Option SourceStep) (old new : Shown) (c : ChangeList) : Type 0 where
  pub changes : c ≡ change_list (carrier_step stays steps (record_of old) (record_of new)) new.text
  pub step : step c ≡ carrier_step stays steps (record_of old) (record_of new)
  pub from : c.old_len ≡ length old.text
  pub to : new_len c ≡ length new.text
  pub long : length new.text ≡ members_len new.members

-- the step can be made on this state: there is room, and a number
pub record IsPlanned (p : Projection) (n : Next) : Type 0 where
  pub room : 0 < p.spare
  pub number : length p.versions < 2 ^ 32 - 1
  pub buffer : n.snapshot.buffer ≡ p.buffer
  pub version : n.snapshot.version ≡ length p.versions
  pub from : n.changes.old_len ≡ length (shown_now p).text
  pub to : new_len n.changes ≡ length n.snapshot.text
  pub long : length n.snapshot.text ≡ members_len n.members

-- the members in place of `removed` of them from `first` on
abbrev pub added_in : ℕ → ℕ → List Member → List Member → List Member
added_in first removed old new = slice_range new first (length new - (length old - (first + removed)))

-- where the members that come next are known, their bounds end in the new texts of their sources
abbrev pub EndsWithin : {X : Type 0} → (ℕ → Option SourceStep) → List Member → Result X ProjectionFault → Type 0
EndsWithin steps members (Ok x) = All (EndsInNew steps) members
EndsWithin steps members (Err (ProjectionFault.Units count)) = All (EndsInNew steps) members
EndsWithin steps members (Err ProjectionFault.OutOfMemory) = Unit {0}
