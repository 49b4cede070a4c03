-- Refusals and want of memory as answers.
use Rattle.std.specs.Prelude.{◌≡◌, ◌⊎◌, Result, Ok, Err, Option, Some, None}
use Rattle.ed_base.specs.declared.Refusal.{Refusal}
use Rattle.ed_base.specs.declared.Which.{Which}
use Rattle.ed_project.specs.declared.ProjectionFault.{ProjectionFault}
use Rattle.ed_climb.specs.declared.fault.PlanFault.{PlanFault}

-- an answer that is this refusal where there is one, and no other; want of memory is free
abbrev pub Refuses : {X : Type 0} → Option Refusal → Result X PlanFault → Type 0
Refuses (Some r) (Ok x) = ⊥
Refuses (Some r) (Err e) = (e ≡ PlanFault.Refused r) ⊎ (e ≡ PlanFault.OutOfMemory)
Refuses None (Ok x) = Unit {0}
Refuses None (Err e) = e ≡ PlanFault.OutOfMemory

-- a fault of a projection on the way as it is told
abbrev pub carried_fault : ProjectionFault → PlanFault
carried_fault (ProjectionFault.Units count) = PlanFault.Refused (Refusal.Limit Which.Units count)
carried_fault ProjectionFault.OutOfMemory = PlanFault.OutOfMemory
