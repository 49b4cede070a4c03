-- The version of a projection that shows other members.
use Rattle.std.specs.Prelude.{◌≡◌, ℕ, ◌+◌, ◌≤◌, List, length, Result, IfOk, true, false}
use Rattle.ed_base.specs.declared.Member.{Member}
use Rattle.ed_base.specs.declared.OutOfMemory.{OutOfMemory}
use Rattle.ed_layers.specs.CarrierStep.{stay_around}
use Rattle.ed_layers.specs.Records.{is_carrier, is_elision, members_of, projection}
use Rattle.ed_members.specs.Faults.{replaced}
use Rattle.ed_project.specs.Planning.{added_in}
use Rattle.ed_project.specs.Texts.{no_steps, versions_of}
use Rattle.ed_version.specs.declared.Snapshot.{Snapshot}
use Rattle.ed_held.specs.declared.held.Held.{Held}
use Rattle.ed_held.specs.declared.moves.Planned.{Planned}
use Rattle.ed_held.specs.Following.{Follows}
use Rattle.ed_held.specs.Moves.{CanMake}
use Rattle.ed_held.specs.Seen.{known, last_of}

-- the members that a buffer that is held shows
abbrev pub held_members : Held → List Member
held_members h = members_of (last_of (known h).buffer)

-- the members are the current ones but for a part
pub record IsPart (shown : List Member) (first removed : ℕ) (members : List Member) : Type 0 where
  pub part : first + removed ≤ length shown
  pub others : members ≡ replaced shown first removed (added_in first removed shown members)

-- a projection can show these members, of which those that stay are its own
pub record CanRespan (h : Held) (first removed : ℕ) (members : List Member) : Type 0 where
  pub carrier : is_carrier (last_of (known h).buffer) ≡ true
  pub plain : is_elision (last_of (known h).buffer) ≡ false
  pub part : IsPart (held_members h) first removed members

-- the projection is as it was but for room, and has room for the version that shows these members over these snapshots
pub record HasRespanned (sources : List Snapshot) (old new : Held) (first removed : ℕ) (members : List Member) (result : Result Planned OutOfMemory) : Type 0 where
  pub same : known new ≡ known old
  pub next : IfOk result (Follows (stay_around first removed (length (added_in first removed (held_members old) members))) no_steps sources (known old) (projection members (versions_of sources)))
  pub made : IfOk result (CanMake new)
