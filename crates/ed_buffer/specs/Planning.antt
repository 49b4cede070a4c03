-- Base buffers, and the steps that are planned for them.
use Rattle.std.specs.Prelude.{◌≡◌, ◌⊎◌, Result, Ok, Err, ℕ, ◌<◌, ◌≤◌, ◌^◌, ◌+◌, ◌-◌, List, length, map, nat_lt, Option, Some, None, option_map, All, if◌then◌else◌, sum_by}
use Rattle.std.specs.Option.{is_some}
use Rattle.ed_base.specs.Numbers.{or_else}
use Rattle.ed_base.specs.declared.Piece.{Piece}
use Rattle.ed_base.specs.ChangeList.{ChangeList, applied, change_list, step, new_len}
use Rattle.ed_base.specs.Hooks.{HookTable}
use Rattle.ed_base.specs.Denial.{first_denied}
use Rattle.ed_version.specs.declared.Snapshot.{Snapshot}
use Rattle.ed_version.specs.Chain.{Chain, now, text_now, MayRepeat, IsOriginal, IsSame}
use Rattle.ed_readonly.specs.LiveRegions.{LiveRegions}
use Rattle.ed_layers.specs.Pieces.{marked_text, step_of_pieces}
use Rattle.ed_layers.specs.SourceStep.{kept_from}
use Rattle.ed_pieces.specs.declared.TrailRun.{TrailRun}
use Rattle.ed_pieces.specs.Trails.{trail_in}
use Rattle.ed_buffer.specs.declared.fault.BaseFault.{BaseFault}

-- a base buffer: its versions, and its read-only regions
pub record Base : Type 0 where
  pub chain : Chain
  pub regions : LiveRegions

-- the version that comes next: what leads to it, the ways by which the new units came, its snapshot, and the version that it repeats
pub record NextVersion : Type 0 where
  pub changes : ChangeList
  pub trails : List TrailRun
  pub snapshot : Snapshot
  pub reiterated : ℕ

-- the way of the unit at a new place, and none where it was kept
abbrev pub way_at : NextVersion → ℕ → Option (List (ℕ × ℕ))
way_at s q = if is_some (kept_from (step s.changes) q) then None else Some (trail_in s.trails q)

-- ---- pieces

abbrev pub put_in : List Piece → ℕ
put_in pieces = sum_by (λ p. length p.text) pieces

-- each piece ends within a text of this length
abbrev pub AreInside : ℕ → List Piece → Type 0
AreInside len pieces = All (λ p. p.start + p.len ≤ len) pieces

-- the text that the pieces leave, and the change list that leads to it
abbrev pub text_left : List Piece → List ℕ → List ℕ
text_left pieces text = map (λ u. u.0) (marked_text pieces text)

abbrev pub changes_left : List Piece → List ℕ → ChangeList
changes_left pieces text = change_list (step_of_pieces pieces (length text)) (text_left pieces text)

-- ---- faults

-- more units than a text may have
abbrev pub too_long : ChangeList → Option BaseFault
too_long c = if nat_lt (2 ^ 22) (new_len c) then Some (BaseFault.Units (new_len c)) else None

-- why the changes aren't planned, if they aren't: a region denies them, or else the text would be too long
abbrev pub fault_of : HookTable → Base → ChangeList → Option BaseFault
fault_of hooks x c = or_else (option_map BaseFault.ReadOnly (first_denied hooks x.regions.regions (now x.chain.versions) c.changes)) (too_long c)

-- an answer that is this fault where there is one, and no other; want of memory is free
abbrev pub Answers : {X : Type 0} → Option BaseFault → Result X BaseFault → Type 0
Answers (Some fault) (Ok x) = ⊥
Answers (Some fault) (Err e) = (e ≡ fault) ⊎ (e ≡ BaseFault.OutOfMemory)
Answers None (Ok x) = Unit {0}
Answers None (Err e) = e ≡ BaseFault.OutOfMemory

-- ---- planning and making

-- the version named is there, repeats itself and has the text that comes next
abbrev pub MayBeNamed : Base → List ℕ → Option ℕ → Type 0
MayBeNamed x text None = Unit {0}
MayBeNamed x text (Some r) = IsOriginal x.chain.versions text r

-- it comes next after the versions that are there
pub record IsNext (x : Base) (s : NextVersion) : Type 0 where
  pub from : s.changes.old_len ≡ length (text_now x.chain.versions)
  pub to : s.snapshot.text ≡ applied s.changes (text_now x.chain.versions)
  pub len : new_len s.changes ≡ length s.snapshot.text
  pub fits : new_len s.changes ≤ 2 ^ 22
  pub version : s.snapshot.version ≡ length x.chain.versions
  pub buffer : s.snapshot.buffer ≡ x.chain.buffer
  pub repeats : MayRepeat x.chain.versions s.snapshot.text s.reiterated

-- the step can be made on this state: there is room, and a number
pub record IsPlanned (x : Base) (s : NextVersion) : Type 0 where
  pub room : 0 < x.chain.spare
  pub number : length x.chain.versions < 2 ^ 32 - 1
  pub next : IsNext x s

-- the same but for room
pub record IsUnchanged (old new : Base) : Type 0 where
  pub chain : IsSame old.chain new.chain
  pub regions : new.regions ≡ old.regions
