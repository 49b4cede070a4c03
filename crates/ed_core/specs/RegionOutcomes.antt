-- What is done to the regions of a buffer, by its number.
use Rattle.std.specs.Prelude.{ℕ, List, [], ◌∷◌, Option, Some, None, Result, Ok, Err}
use Rattle.ed_base.specs.declared.Span.{Span}
use Rattle.ed_base.specs.declared.SpanMode.{SpanMode}
use Rattle.ed_base.specs.declared.EdgeMode.{EdgeMode}
use Rattle.ed_base.specs.declared.Refusal.{Refusal}
use Rattle.ed_base.specs.declared.Which.{Which}
use Rattle.ed_readonly.specs.declared.RegionFault.{RegionFault}
use Rattle.ed_entry.specs.declared.Reply.{Reply}
use Rattle.ed_group.specs.Asking.{with_region, without_region}
use Rattle.ed_base.specs.Hooks.{HookTable}
use Rattle.ed_base.specs.Numbers.{first_some}
use Rattle.ed_machine.specs.Refusals.{wrong_kind, is_base, past_now, no_hook}
use Rattle.ed_machine.specs.State.{State, buffer, with_buffer}
use Rattle.ed_machine.specs.Accepted.{Outcome, answers}

-- one more region
abbrev pub region_made : State → ℕ → Span → SpanMode → EdgeMode → Option (List ℕ) → Outcome
region_made s b span mode edge query = answers (with_buffer s b (with_region (buffer s b) span mode edge query)) (Reply.Region (buffer s b).regions_given)

-- one less
abbrev pub region_gone : State → ℕ → ℕ → Outcome
region_gone s b region = answers (with_buffer s b (without_region (buffer s b) region)) Reply.Removed

-- the reply that an answer of the stock gives, but for want of memory
abbrev pub region_told : Result ℕ RegionFault → Option Reply
region_told (Ok number) = Some (Reply.Region number)
region_told (Err (RegionFault.Limit count)) = Some (Reply.Refused (Refusal.Limit Which.Regions count))
region_told (Err RegionFault.OutOfMemory) = None

-- why a region isn't made
abbrev pub region_refusal : HookTable → State → ℕ → ℕ → Option (List ℕ) → Option Refusal
region_refusal hooks s b end query = first_some (wrong_kind s b is_base ∷ past_now s b end ∷ no_hook hooks.queries query ∷ [])
