-- The whole step of the commands that make an elision buffer or hide other places, by why they are refused.
use Rattle.std.proofs.Common.{◌≡◌, ℕ, ◌+◌, true, false, List, [], ◌∷◌, ◌++◌, Option, Some, None, refl, sym, ◌∙◌, ap}
use Rattle.std.specs.Prelude.{is_some, unwrap_or}
use Rattle.ed_base.specs.declared.edit.Span.{Span}
use Rattle.ed_base.specs.declared.refusal.Refusal.{Refusal}
use Rattle.ed_base.specs.Hooks.{HookTable}
use Rattle.ed_base.specs.Numbers.{first_some, or_else}
use Rattle.ed_stock.specs.Limits.{stock_limits}
use Rattle.ed_stock.specs.Linking.{depth}
use Rattle.ed_stock.specs.Making.{elide_set, elision_of, with_new}
use Rattle.ed_script.specs.declared.kinds.Command.{Command}
use Rattle.ed_entry.specs.declared.Reply.{Reply}
use Rattle.ed_machine.specs.State.{State, number_of, count}
use Rattle.ed_machine.specs.Accepted.{answers, accepted, made, edited_to}
use Rattle.ed_machine.specs.Refusals.{refusal, tests, ends_of, no_hook, past, len_now}
use Rattle.ed_machine.specs.Step.{told, or_refused}
use Rattle.ed_core.specs.Asking.{elide_refusal}
use Rattle.ed_core.specs.Deciding.{elision_outcome, hidden_outcome}
use Rattle.ed_core.specs.Within.{IsWithin}
use Rattle.ed_core.proofs.Commands.{behind}
use Rattle.ed_core.proofs.Deciding.{decided}
use Rattle.ed_core.proofs.Few.{few-new, few-kept}
use Rattle.ed_core.proofs.Keeping.{keeps-elide_set}
use Rattle.ed_core.proofs.Limits.{told-refused}
use Rattle.ed_core.proofs.Resolvers.{limits-new}

-- ---- a new elision buffer

-- the last of two reasons stands for itself
last_reason : {X : Type 0} (a : Option X) (x : X) → first_some (a ∷ Some x ∷ []) ≡ Some (unwrap_or a x)
last_reason None x = refl
last_reason (Some z) x = refl

module _ (hooks : HookTable) (s : State) (name source : List ℕ) (hide : List Span) (resolver : Option (List ℕ)) where
  abbrev hiding : Command
  hiding = Command.Elision name source hide resolver

  unnamed : None ≡ number_of s source → refusal hooks s hiding ≡ Some Refusal.NoBuffer
  unfolding tests
  unnamed none = rw (← none) refl

  pub elision_missing : None ≡ number_of s source → told hooks s (Command.Elision name source hide resolver) ≡ answers s (Reply.Refused Refusal.NoBuffer)
  elision_missing none = told-refused hooks s hiding Refusal.NoBuffer (unnamed none)

  module _ (b : ℕ) (found : Some b ≡ number_of s source) where
    abbrev ends : Option Refusal
    ends = past (ends_of hide) (len_now s b)

    abbrev stacked : Option Refusal
    stacked = depth s.stock (count s + 1) (count s) (b ∷ [])

    abbrev then_hook : Option Refusal → Option Refusal
    then_hook hook = first_some (stacked ∷ hook ∷ [])

    abbrev unresolved : Option Refusal
    unresolved = no_hook hooks.resolvers resolver

    taken_next : is_some (number_of s name) ≡ true → refusal hooks s hiding ≡ Some Refusal.NameTaken
    unfolding tests
    taken_next e = rw (← found) (rw e refl)

    past_next : is_some (number_of s name) ≡ false → refusal hooks s hiding ≡ or_else ends (then_hook unresolved)
    unfolding tests
    past_next e = rw (← found) (rw e refl)

    hides : accepted hooks s hiding ≡ made s name (elision_of s.stock b hide) resolver
    unfolding accepted
    hides = rw (← found) refl

    pub elision_taken : is_some (number_of s name) ≡ true → told hooks s (Command.Elision name source hide resolver) ≡ answers s (Reply.Refused Refusal.NameTaken)
    elision_taken e = told-refused hooks s hiding Refusal.NameTaken (taken_next e)

    module _ (free : is_some (number_of s name) ≡ false) where
      pub elision_past : (r : Refusal) → Some r ≡ past (ends_of hide) (len_now s b) → told hooks s (Command.Elision name source hide resolver) ≡ answers s (Reply.Refused r)
      elision_past r passes = told-refused hooks s hiding r (past_next free ∙ ap (λ o. or_else o (then_hook unresolved)) (sym passes))

      -- past the ends, what is left
      left_next : None ≡ ends → (hook : Option Refusal) → hook ≡ unresolved → refusal hooks s hiding ≡ then_hook hook
      left_next within hook is = past_next free ∙ (ap (λ o. or_else o (then_hook unresolved)) (sym within) ∙ ap then_hook (sym is))

      pub elision_unresolved : (missing r : Refusal) → None ≡ past (ends_of hide) (len_now s b) → Some missing ≡ no_hook hooks.resolvers resolver → r ≡ unwrap_or (depth s.stock (count s + 1) (count s) (b ∷ [])) missing
          → told hooks s (Command.Elision name source hide resolver) ≡ answers s (Reply.Refused r)
      elision_unresolved missing r within hook is = told-refused hooks s hiding r (left_next within (Some missing) hook ∙ (last_reason stacked missing ∙ ap Some (sym is)))

      pub elision_step : None ≡ past (ends_of hide) (len_now s b) → None ≡ no_hook hooks.resolvers resolver → IsWithin s → told hooks s (Command.Elision name source hide resolver) ≡ elision_outcome s name b hide resolver
      elision_step within hook few =
          let limits : Option (List ℕ) → Option Refusal = λ x. first_some (stock_limits (with_new s.stock (elision_of s.stock b hide) x)) in
          decided hooks s hiding (first_some (stacked ∷ [])) (made s name (elision_of s.stock b hide) resolver) (left_next within None hook) hides refl (few-new s.stock (elision_of s.stock b hide) resolver few.regions) few.answered
          ∙ (ap (λ o. or_refused s (or_else (first_some (stacked ∷ [])) o) (made s name (elision_of s.stock b hide) resolver)) (ap first_some (limits-new s.stock (elision_of s.stock b hide) resolver None))
          ∙ ap (λ o. or_refused s o (made s name (elision_of s.stock b hide) resolver)) (behind (stacked ∷ []) (limits None)))

-- by what the code finds
pub same-elision : (hooks : HookTable) (s : State) (kept name source : List ℕ) (b : ℕ) (xs hide : List Span) (shared resolver : Option (List ℕ)) → kept ≡ name → shared ≡ resolver → xs ≡ hide → Some b ≡ number_of s source → is_some (number_of s name) ≡ false
    → None ≡ past (ends_of hide) (len_now s b) → None ≡ no_hook hooks.resolvers resolver → IsWithin s → elision_outcome s kept b xs shared ≡ told hooks s (Command.Elision name source hide resolver)
same-elision hooks s kept name source b xs hide shared resolver e f h found free within hook few = (λ i. elision_outcome s (e i) b (h i) (f i)) ∙ sym (elision_step hooks s name source hide resolver b found free within hook few)

-- ---- other hidden places

module _ (hooks : HookTable) (s : State) (name : List ℕ) (hide show : List Span) (at : Option ℕ) where
  abbrev eliding : Command
  eliding = Command.Elide name hide show at

  nowhere : None ≡ number_of s name → refusal hooks s eliding ≡ Some Refusal.NoBuffer
  unfolding tests
  nowhere none = rw (← none) refl

  pub elide_missing : None ≡ number_of s name → told hooks s (Command.Elide name hide show at) ≡ answers s (Reply.Refused Refusal.NoBuffer)
  elide_missing none = told-refused hooks s eliding Refusal.NoBuffer (nowhere none)

  module _ (n : ℕ) (found : Some n ≡ number_of s name) where
    reasons : refusal hooks s eliding ≡ elide_refusal s n at (ends_of hide ++ ends_of show)
    unfolding tests
    reasons = rw (← found) refl

    sets : accepted hooks s eliding ≡ edited_to s (elide_set s.stock n hide show)
    unfolding accepted
    sets = rw (← found) refl

    pub elide_refused : (r : Refusal) → Some r ≡ elide_refusal s n at (ends_of hide ++ ends_of show) → told hooks s (Command.Elide name hide show at) ≡ answers s (Reply.Refused r)
    elide_refused r some = told-refused hooks s eliding r (reasons ∙ sym some)

    pub elide_step : None ≡ elide_refusal s n at (ends_of hide ++ ends_of show) → IsWithin s → told hooks s (Command.Elide name hide show at) ≡ hidden_outcome s n hide show
    elide_step none few = decided hooks s eliding None (edited_to s (elide_set s.stock n hide show)) (reasons ∙ sym none) sets refl (few-kept s.stock (elide_set s.stock n hide show).stock (keeps-elide_set s.stock n hide show) few.regions) few.answered
