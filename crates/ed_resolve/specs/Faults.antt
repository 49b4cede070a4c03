-- Why a carrier can't send on what arrives.
use Rattle.std.specs.Prelude.{◌≡◌, ℕ, ◌+◌, ◌<◌, ◌^◌, nat_eq, if◌then◌else◌, Option, Some, None}
use Rattle.ed_base.specs.declared.edit.Span.{Span}
use Rattle.ed_base.specs.Spans.{shared, shares_unit, touches_gap}
use Rattle.ed_base.specs.declared.piece.Member.{Member}
use Rattle.ed_base.specs.declared.refusal.Refusal.{Refusal}
use Rattle.ed_layers.specs.Records.{member_len}
use Rattle.ed_resolve.specs.declared.fault.SendFault.{SendFault}

-- the refusal that a fault of this carrier is
abbrev pub refusal_of : ℕ → SendFault → Option Refusal
refusal_of carrier (SendFault.Literal span) = Some (Refusal.Literal carrier span)
refusal_of carrier (SendFault.NoPlace gap) = Some (Refusal.NoPlace carrier gap)
refusal_of carrier SendFault.OutOfMemory = None

-- what two spans share, if there is a unit in both
abbrev pub shared_in : Span → Span → Option Span
shared_in one other = if shares_unit one other then Some (shared one other) else None

-- what of the range of a component lies in a placement: of an empty range its gap, both ends of the placement included, and else the units in both
abbrev pub range_in : Span → Span → Option Span
range_in place range = if nat_eq range.len 0 then (if touches_gap place range.start then Some range else None) else shared_in place range

-- the bounds of a tracked member end below 2^32
abbrev pub EndsShort : Member → Type 0
EndsShort (Member.Literal units) = Unit {0}
EndsShort (Member.Tracked source bounds mode) = bounds.start + bounds.len < 2 ^ 32

-- the span is as long as the member
abbrev pub HasLength : Span → Member → Type 0
HasLength place m = place.len ≡ member_len m

-- a fault that is the deletion of this part of a literal, or want of memory
abbrev pub IsDeleted : Option Span → SendFault → Type 0
IsDeleted part (SendFault.Literal span) = part ≡ Some span
IsDeleted part (SendFault.NoPlace gap) = ⊥
IsDeleted part SendFault.OutOfMemory = Unit {0}
