-- A buffer that goes along with moves of its sources.
use Rattle.std.specs.Prelude.{◌≡◌, ◌⊎◌, ℕ, ◌<◌, ◌≤◌, ◌^◌, Bool, true, false, ◌&&◌, List, [], ◌∷◌, ◌++◌, length, map, All, Result, Ok, Err, is_some, is_none, slice_set, Option, Some, None}
use Rattle.std.specs.List.{list_any}
use Rattle.ed_base.specs.declared.piece.Member.{Member}
use Rattle.ed_layers.specs.CarrierStep.{all_stay, record_trails}
use Rattle.ed_layers.specs.Order.{overlap_fault}
use Rattle.ed_layers.specs.Records.{Record, is_elision, members_len, members_of, sources_of}
use Rattle.ed_layers.specs.SourceStep.{SourceStep}
use Rattle.ed_members.specs.Moving.{EndsInNew}
use Rattle.ed_pieces.specs.Trails.{trails_in}
use Rattle.ed_pieces.specs.declared.trails.TrailRun.{TrailRun}
use Rattle.ed_project.specs.Planning.{too_long}
use Rattle.ed_project.specs.declared.ProjectionFault.{ProjectionFault}
use Rattle.ed_stock.specs.Versions.{step_in}
use Rattle.ed_version.specs.declared.Snapshot.{Snapshot}
use Rattle.ed_held.specs.declared.held.Held.{Held}
use Rattle.ed_held.specs.declared.moves.Move.{Move}
use Rattle.ed_held.specs.declared.moves.Planned.{Planned}
use Rattle.ed_held.specs.Advancing.{CanGoOn, record_then}
use Rattle.ed_held.specs.Following.{Follows}
use Rattle.ed_held.specs.Moves.{CanMake, move_of, move_seen, record_of, snapshot_after}
use Rattle.ed_held.specs.Seen.{Known, known, last_of}

-- whether one of its sources has moved
abbrev pub is_over : List Move → Held → Bool
is_over ms h = list_any (λ v. is_some (move_of ms v.0)) (sources_of (last_of (known h).buffer))

-- the snapshots of its sources once the moves are made, and its record then
abbrev pub source_snapshots : List Held → List Move → Known → List Snapshot
source_snapshots hs ms k = map (λ v. snapshot_after hs ms v.0) (sources_of (last_of k.buffer))

abbrev pub record_after : List Held → List Move → (ℕ → Option SourceStep) → Known → Record
record_after hs ms steps k = record_then steps (source_snapshots hs ms k) k

-- it can go along
abbrev pub CanRise : List Held → List Move → (ℕ → Option SourceStep) → Held → Type 0
CanRise hs ms steps h = All (λ v. v.0 < length hs) (sources_of (last_of (known h).buffer)) × CanGoOn (known h).number steps (source_snapshots hs ms (known h)) (last_of (known h).buffer)

-- the version comes next after the buffer, which has room for it, and the other buffers stay
pub record HasNext (hs hs' : List Held) (ms : List Move) (steps : ℕ → Option SourceStep) (b : ℕ) (h : Held) (p : Planned) : Type 0 where
  pub held : Held
  pub set : hs' ≡ slice_set hs b held
  pub same : known held ≡ known h
  pub made : CanMake held p
  pub follows : Follows all_stay steps (source_snapshots hs ms (known h)) (known h) (record_after hs ms steps (known h)) p
  pub ends : All (EndsInNew steps) (members_of (record_of p))
  pub fits : members_len (members_of (record_of p)) ≤ 2 ^ 22

-- a text of these members is too long, and so it is told
abbrev pub IsLong : (ℕ → Option SourceStep) → List Member → ProjectionFault → Type 0
IsLong steps members e = (too_long (members_len members) ≡ Some e) × All (EndsInNew steps) members

-- What its answer says: the version comes next, or its text would be too long.
abbrev pub HasRisen : List Held → List Held → List Move → (ℕ → Option SourceStep) → ℕ → Held → Result Planned ProjectionFault → Type 0
HasRisen hs hs' ms steps b h (Ok p) = HasNext hs hs' ms steps b h p
HasRisen hs hs' ms steps b h (Err e) = (e ≡ ProjectionFault.OutOfMemory) ⊎ IsLong steps (members_of (record_after hs ms steps (known h))) e

-- what goes further up: the ways of the units of this record, but for their last pair
abbrev pub HandsUp : ℕ → (ℕ → Option SourceStep) → Record → List TrailRun → Type 0
HandsUp b steps r trails = trails_in trails (members_len (members_of r)) ≡ record_trails b (is_elision r) steps r

-- the same with these ways, the members being in order
abbrev pub HasRisenWith : List Held → List Held → List Move → (ℕ → Option SourceStep) → ℕ → Held → Result (Planned × List TrailRun) ProjectionFault → Type 0
HasRisenWith hs hs' ms steps b h (Ok r) = HasNext hs hs' ms steps b h r.0 × (overlap_fault (members_of (record_of r.0)) ≡ None) × HandsUp b steps (record_of r.0) r.1
HasRisenWith hs hs' ms steps b h (Err e) = (e ≡ ProjectionFault.OutOfMemory) ⊎ HasRisen hs hs' ms steps b h (Err e)

-- ---- one turn

-- whether it goes along now
abbrev pub goes : List Move → ℕ → Held → Bool
goes ms b h = is_none (move_of ms b) && is_over ms h

abbrev pub move_to : ℕ → Planned → List TrailRun → Move
move_to b p trails = record { buffer = b; planned = p; trails = trails }

-- what happened to the buffers and the moves, where it went along, and where it didn't
abbrev pub WentAlong : List Held → List Held → List Move → List Move → ℕ → Held → Result (Unit {0}) ProjectionFault → Type 0
WentAlong hs hs' ms ms' b h (Ok x) = (p : Planned) × (trails : List TrailRun) × (ms' ≡ ms ++ move_to b p trails ∷ []) × HasRisenWith hs hs' ms (step_in (map move_seen ms)) b h (Ok (p, trails))
WentAlong hs hs' ms ms' b h (Err e) = (e ≡ ProjectionFault.OutOfMemory) ⊎ HasRisen hs hs' ms (step_in (map move_seen ms)) b h (Err e)

abbrev pub Rested : List Held → List Held → List Move → List Move → Result (Unit {0}) ProjectionFault → Type 0
Rested hs hs' ms ms' (Ok x) = (hs' ≡ hs) × (ms' ≡ ms)
Rested hs hs' ms ms' (Err e) = e ≡ ProjectionFault.OutOfMemory

abbrev pub TurnedBy : Bool → List Held → List Held → List Move → List Move → ℕ → Held → Result (Unit {0}) ProjectionFault → Type 0
TurnedBy true hs hs' ms ms' b h result = WentAlong hs hs' ms ms' b h result
TurnedBy false hs hs' ms ms' b h result = Rested hs hs' ms ms' result

abbrev pub HasTurned : List Held → List Held → List Move → List Move → ℕ → Held → Result (Unit {0}) ProjectionFault → Type 0
HasTurned hs hs' ms ms' b h result = TurnedBy (goes ms b h) hs hs' ms ms' b h result
