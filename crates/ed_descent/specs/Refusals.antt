-- Refusals and want of memory as answers.
use Rattle.std.specs.Prelude.{◌≡◌, ◌⊎◌, ℕ, Result, Ok, Err, Option, Some, None}
use Rattle.ed_base.specs.declared.Refusal.{Refusal}
use Rattle.ed_resolve.specs.declared.fault.SendFault.{SendFault}
use Rattle.ed_descent.specs.declared.fault.DescentFault.{DescentFault}

-- an answer that is this refusal where there is one, and no other; want of memory is free
abbrev pub Refuses : {X : Type 0} → Option Refusal → Result X DescentFault → Type 0
Refuses (Some r) (Ok x) = ⊥
Refuses (Some r) (Err e) = (e ≡ DescentFault.Refused r) ⊎ (e ≡ DescentFault.OutOfMemory)
Refuses None (Ok x) = Unit {0}
Refuses None (Err e) = e ≡ DescentFault.OutOfMemory

-- why this carrier can't send, as it is told
abbrev pub told : ℕ → SendFault → DescentFault
told carrier (SendFault.Literal span) = DescentFault.Refused (Refusal.Literal carrier span)
told carrier (SendFault.NoPlace gap) = DescentFault.Refused (Refusal.NoPlace carrier gap)
told carrier SendFault.OutOfMemory = DescentFault.OutOfMemory
