-- The step of a command that makes a region, by why it is refused.
use Rattle.std.proofs.Common.{◌≡◌, ℕ, ◌+◌, true, false, not, List, Option, Some, None, refl, sym, ◌∙◌, nat_eq}
use Rattle.std.specs.List.{list_any}
use Rattle.ed_base.specs.declared.refusal.What.{What}
use Rattle.ed_base.specs.Denial.{Region}
use Rattle.ed_layers.specs.Records.{is_carrier}
use Rattle.ed_base.specs.declared.mode.EdgeMode.{EdgeMode}
use Rattle.ed_base.specs.declared.mode.SpanMode.{SpanMode}
use Rattle.ed_base.specs.declared.refusal.Refusal.{Refusal}
use Rattle.ed_base.specs.Hooks.{HookTable}
use Rattle.ed_script.specs.declared.kinds.Command.{Command}
use Rattle.ed_entry.specs.declared.Reply.{Reply}
use Rattle.ed_machine.specs.State.{State, number_of, buffer, record_now}
use Rattle.ed_machine.specs.Accepted.{answers, accepted}
use Rattle.ed_machine.specs.Refusals.{refusal, tests}
use Rattle.ed_machine.specs.Step.{told, within_limits, weighed}
use Rattle.ed_core.specs.RegionOutcomes.{region_gone, region_made, region_refusal}
use Rattle.ed_core.proofs.Limits.{told-refused, told-accepted}

module _ (hooks : HookTable) (s : State) (name : List ℕ) (start len : ℕ) (edge : EdgeMode) (mode : SpanMode) (query : Option (List ℕ)) where
  abbrev asked : Command
  asked = Command.Region name start len edge mode query

  missing : None ≡ number_of s name → refusal hooks s asked ≡ Some Refusal.NoBuffer
  unfolding tests
  missing none = rw (← none) refl

  there : (n : ℕ) → Some n ≡ number_of s name → refusal hooks s asked ≡ region_refusal hooks s n (start + len) query
  unfolding tests
  there n found = rw (← found) refl

  does : (n : ℕ) → Some n ≡ number_of s name → accepted hooks s asked ≡ region_made s n (record { start = start; len = len }) mode edge query
  unfolding accepted
  does n found = rw (← found) refl

  pub region_missing : None ≡ number_of s name → told hooks s (Command.Region name start len edge mode query) ≡ answers s (Reply.Refused Refusal.NoBuffer)
  region_missing none = told-refused hooks s asked Refusal.NoBuffer (missing none)

  pub region_refused : (n : ℕ) (r : Refusal) → Some n ≡ number_of s name → Some r ≡ region_refusal hooks s n (start + len) query → told hooks s (Command.Region name start len edge mode query) ≡ answers s (Reply.Refused r)
  region_refused n r found some = told-refused hooks s asked r (there n found ∙ sym some)

  pub region_step : (n : ℕ) → Some n ≡ number_of s name → None ≡ region_refusal hooks s n (start + len) query → told hooks s (Command.Region name start len edge mode query) ≡ within_limits s (weighed (region_made s n (record { start = start; len = len }) mode edge query))
  region_step n found none = told-accepted hooks s asked (region_made s n (record { start = start; len = len }) mode edge query) (there n found ∙ sym none) (does n found)

-- ---- the step of a command that removes a region

module _ (hooks : HookTable) (s : State) (name : List ℕ) (region : ℕ) where
  abbrev removal : Command
  removal = Command.Unregion name region

  no_name : None ≡ number_of s name → refusal hooks s removal ≡ Some Refusal.NoBuffer
  unfolding tests
  no_name none = rw (← none) refl

  no_base : (n : ℕ) → Some n ≡ number_of s name → not (is_carrier (record_now s n)) ≡ false → refusal hooks s removal ≡ Some Refusal.WrongKind
  unfolding tests
  no_base n found carrier = rw (← found) (rw carrier refl)

  absent : (n : ℕ) → Some n ≡ number_of s name → not (is_carrier (record_now s n)) ≡ true → list_any (λ (r : Region). nat_eq r.number region) (buffer s n).regions ≡ false → refusal hooks s removal ≡ Some (Refusal.NoSuch What.Region)
  unfolding tests
  absent n found base none = rw (← found) (rw (base, none) refl)

  present : (n : ℕ) → Some n ≡ number_of s name → not (is_carrier (record_now s n)) ≡ true → list_any (λ (r : Region). nat_eq r.number region) (buffer s n).regions ≡ true → refusal hooks s removal ≡ None
  unfolding tests
  present n found base some = rw (← found) (rw (base, some) refl)

  removes : (n : ℕ) → Some n ≡ number_of s name → accepted hooks s removal ≡ region_gone s n region
  unfolding accepted
  removes n found = rw (← found) refl

  pub gone_missing : None ≡ number_of s name → told hooks s (Command.Unregion name region) ≡ answers s (Reply.Refused Refusal.NoBuffer)
  gone_missing none = told-refused hooks s removal Refusal.NoBuffer (no_name none)

  pub gone_carrier : (n : ℕ) → Some n ≡ number_of s name → not (is_carrier (record_now s n)) ≡ false → told hooks s (Command.Unregion name region) ≡ answers s (Reply.Refused Refusal.WrongKind)
  gone_carrier n found carrier = told-refused hooks s removal Refusal.WrongKind (no_base n found carrier)

  pub gone_absent : (n : ℕ) → Some n ≡ number_of s name → not (is_carrier (record_now s n)) ≡ true → list_any (λ (r : Region). nat_eq r.number region) (buffer s n).regions ≡ false → told hooks s (Command.Unregion name region) ≡ answers s (Reply.Refused (Refusal.NoSuch What.Region))
  gone_absent n found base none = told-refused hooks s removal (Refusal.NoSuch What.Region) (absent n found base none)

  pub gone_step : (n : ℕ) → Some n ≡ number_of s name → not (is_carrier (record_now s n)) ≡ true → list_any (λ (r : Region). nat_eq r.number region) (buffer s n).regions ≡ true → within_limits s (weighed (region_gone s n region)) ≡ region_gone s n region → told hooks s (Command.Unregion name region) ≡ region_gone s n region
  gone_step n found base some whole = told-accepted hooks s removal (region_gone s n region) (present n found base some) (removes n found) ∙ whole
