-- The version of an elision buffer that hides other places.
use Rattle.std.specs.Prelude.{◌≡◌, Bool, true, List, length, Result, IfOk}
use Rattle.ed_base.specs.declared.OutOfMemory.{OutOfMemory}
use Rattle.ed_layers.specs.CarrierStep.{all_stay}
use Rattle.ed_layers.specs.Records.{Record, base, projection, elision, is_elision}
use Rattle.ed_project.specs.Texts.{no_steps}
use Rattle.ed_stock.specs.Making.{flags_of}
use Rattle.ed_version.specs.declared.Snapshot.{Snapshot}
use Rattle.ed_held.specs.declared.held.Held.{Held}
use Rattle.ed_held.specs.declared.moves.Planned.{Planned}
use Rattle.ed_held.specs.Advancing.{CanGoOn, record_then}
use Rattle.ed_held.specs.Following.{Follows}
use Rattle.ed_held.specs.Moves.{CanMake}
use Rattle.ed_held.specs.Seen.{known, last_of}

-- the record with these hidden places
abbrev pub with_flags : List Bool → Record → Record
with_flags new (base text reiterated) = base text reiterated
with_flags new (projection members sources) = projection members sources
with_flags new (elision flags source version) = elision new source version

-- an elision buffer can hide these places, with its source at rest
pub record CanRehide (sources : List Snapshot) (h : Held) (new : List Bool) : Type 0 where
  pub hides : is_elision (last_of (known h).buffer) ≡ true
  pub size : length new ≡ length (flags_of (last_of (known h).buffer))
  pub there : CanGoOn (known h).number no_steps sources (last_of (known h).buffer)

-- the buffer is as it was but for room, and has room for the version that hides these places over these snapshots
pub record HasRehidden (sources : List Snapshot) (old new : Held) (flags : List Bool) (result : Result Planned OutOfMemory) : Type 0 where
  pub same : known new ≡ known old
  pub next : IfOk result (Follows all_stay no_steps sources (known old) (with_flags flags (record_then no_steps sources (known old))))
  pub made : IfOk result (CanMake new)
