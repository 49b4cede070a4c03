-- A base on which pieces land, among the buffers that are held.
use Rattle.std.specs.Prelude.{◌≡◌, ◌⊎◌, ℕ, Bool, not, ◌&&◌, List, [], ◌∷◌, ◌++◌, length, nat_eq, slice_set, Result, Ok, Err, Option, Some, None, unwrap_or}
use Rattle.ed_base.specs.declared.Piece.{Piece}
use Rattle.ed_base.specs.declared.Refusal.{Refusal}
use Rattle.ed_base.specs.Hooks.{HookTable}
use Rattle.ed_buffer.specs.Planning as buffers
use Rattle.ed_buffer.specs.Planning.{Base, NextVersion, changes_left, fault_of}
use Rattle.ed_buffer.specs.declared.BaseFault.{BaseFault}
use Rattle.ed_layers.specs.Records.{is_carrier}
use Rattle.ed_version.specs.Chain.{text_now}
use Rattle.ed_climb.specs.declared.fault.PlanFault.{PlanFault}
use Rattle.ed_held.specs.declared.held.Held.{Held}
use Rattle.ed_held.specs.declared.moves.Move.{Move}
use Rattle.ed_held.specs.declared.moves.Planned.{Planned}
use Rattle.ed_held.specs.Landing.{IsNextBy}
use Rattle.ed_held.specs.Seen.{known, last_of}

-- whether it is a base, and there are pieces for it
abbrev pub is_met : Held → List Piece → Bool
is_met h ps = not (is_carrier (last_of (known h).buffer)) && not (nat_eq (length ps) 0)

abbrev pub move_by : ℕ → NextVersion → Move
move_by b st = record { buffer = b; planned = Planned.Base st; trails = st.trails }

-- the base has room for the version to which the pieces lead, which is the next move
pub record IsLanded (hs hs' : List Held) (ms ms' : List Move) (b : ℕ) (x : Base) (ps : List Piece) : Type 0 where
  pub base : Base
  pub next : NextVersion
  pub set : hs' ≡ slice_set hs b (Held.Base base)
  pub moves : ms' ≡ ms ++ move_by b next ∷ []
  pub same : buffers.IsUnchanged x base
  pub planned : buffers.IsPlanned base next
  pub by : IsNextBy x ps next

-- what an answer says: the move is planned, or the base's own fault is told
abbrev pub HasLandedOn : HookTable → List Held → List Held → List Move → List Move → ℕ → Base → List Piece → Result (Unit {0}) BaseFault → Type 0
HasLandedOn hooks hs hs' ms ms' b x ps (Ok r) = (fault_of hooks x (changes_left ps (text_now x.chain.versions)) ≡ None) × IsLanded hs hs' ms ms' b x ps
HasLandedOn hooks hs hs' ms ms' b x ps (Err e) = (e ≡ BaseFault.OutOfMemory) ⊎ ((fault_of hooks x (changes_left ps (text_now x.chain.versions)) ≡ Some e) × (ms' ≡ ms))

abbrev pub HasLandedAmong : HookTable → List Held → List Held → List Move → List Move → ℕ → Held → List Piece → Result (Unit {0}) BaseFault → Type 0
HasLandedAmong hooks hs hs' ms ms' b h ps r = (x : Base) × (h ≡ Held.Base x) × HasLandedOn hooks hs hs' ms ms' b x ps r

-- what a fault of a base comes to, where a text may be too long already
abbrev pub after_fault : ℕ → Option ℕ → BaseFault → Result (Option ℕ) PlanFault
after_fault b long (BaseFault.ReadOnly region) = Err (PlanFault.Refused (Refusal.ReadOnly b region))
after_fault b long (BaseFault.Units n) = Ok (Some (unwrap_or long n))
after_fault b long BaseFault.OutOfMemory = Err PlanFault.OutOfMemory
