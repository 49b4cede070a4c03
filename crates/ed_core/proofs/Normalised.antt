-- What the normal form of replaces decides.
use Rattle.std.proofs.Common.{◌≡◌, ◌≢◌, ℕ, ◌+◌, List, [], ◌∷◌, length, map, nat_lt, Result, Ok, Err, IfErr, IfOk, OnOk, MatchOption, Option, Some, None, refl, sym, ◌∙◌, ap, inl, inr}
use Rattle.std.specs.Prelude.{option_map}
use Rattle.std.proofs.lemmas.Bool.{cases_Bool}
use Rattle.std.proofs.lemmas.Option.{none-some}
use Rattle.ed_base.specs.declared.edit.Change.{Change}
use Rattle.ed_base.specs.declared.edit.Replace.{Replace}
use Rattle.ed_base.specs.declared.refusal.Refusal.{Refusal}
use Rattle.ed_base.specs.ChangeList.{ChangeList, normal_form}
use Rattle.ed_base.specs.Hooks.{HookTable}
use Rattle.ed_change.specs.declared.fault.ChangeFault.{ChangeFault}
use Rattle.ed_change.specs.Ranges.{first_past}
use Rattle.ed_entry.specs.declared.Reply.{Reply}
use Rattle.ed_machine.specs.State.{State}
use Rattle.ed_machine.specs.Accepted.{Outcome, answers}
use Rattle.ed_machine.specs.Refusals.{past, len_now}
use Rattle.ed_machine.specs.Step.{or_refused}
use Rattle.ed_core.specs.Asking.{form_told, replaces_outcome}
use Rattle.ed_core.specs.Deciding.{changes_outcome, edit_outcome}

some-inj : {X : Type 0} {x y : X} → Some x ≡ Some y → x ≡ y
some-inj e = cc

abbrev too_far : ℕ → Replace → Refusal
too_far len r = Refusal.OutOfRange (r.start + r.len) len

past-as : (len : ℕ) (rs : List Replace) → past (map (λ r. r.start + r.len) rs) len ≡ option_map (too_far len) (first_past len rs)
past-as len [] = refl
past-as len (r ∷ rs) = elim (cases_Bool (nat_lt len (r.start + r.len))) [
  | inl t ↦ rw t refl
  | inr f ↦ rw f (past-as len rs)
]

abbrev AnswersPast : ℕ → List Replace → Result ChangeList ChangeFault → Type 0
AnswersPast len rs x = MatchOption (first_past len rs) (IfErr x (λ e. e ≡ ChangeFault.OutOfMemory)) (λ r. x ≡ Err (ChangeFault.OutOfRange (r.start + r.len) len))

none-past : (len : ℕ) (rs : List Replace) (c : ChangeList) (x : Result ChangeList ChangeFault) → x ≡ Ok c → (o : Option Replace) → MatchOption o (IfErr x (λ e. e ≡ ChangeFault.OutOfMemory)) (λ r. x ≡ Err (ChangeFault.OutOfRange (r.start + r.len) len)) → o ≡ None
none-past len rs c x is None h = refl
none-past len rs c x is (Some r) h = absurd (cc)

some-past : (len k end : ℕ) (x : Result ChangeList ChangeFault) → x ≡ Err (ChangeFault.OutOfRange end k) → (o : Option Replace) → MatchOption o (IfErr x (λ e. e ≡ ChangeFault.OutOfMemory)) (λ r. x ≡ Err (ChangeFault.OutOfRange (r.start + r.len) len)) → option_map (too_far len) o ≡ Some (Refusal.OutOfRange end k)
some-past len k end (Ok c) is o h = absurd (cc)
some-past len k end (Err e) is None h = absurd (cc)
some-past len k end (Err e) is (Some r) h = cc

module _ (hooks : HookTable) (s : State) (b : ℕ) (rs : List Replace) (len : ℕ) (len_is : len ≡ len_now s b) (x : Result ChangeList ChangeFault) (ends : AnswersPast len rs x) where
  pub form-lands : (c : ChangeList) → x ≡ Ok c → c ≡ normal_form rs len → changes_outcome hooks s b c ≡ replaces_outcome hooks s b rs
  form-lands c is normal =
      let none : past (map (λ r. r.start + r.len) rs) (len_now s b) ≡ None = ap (past (map (λ r. r.start + r.len) rs)) (sym len_is) ∙ (past-as len rs ∙ ap (option_map (too_far len)) (none-past len rs c x is (first_past len rs) ends)) in
      ap (changes_outcome hooks s b) (normal ∙ ap (normal_form rs) len_is) ∙ ap (λ o. or_refused s o (changes_outcome hooks s b (normal_form rs (len_now s b)))) (sym none)

  form-refused : (end k : ℕ) → x ≡ Err (ChangeFault.OutOfRange end k) → replaces_outcome hooks s b rs ≡ answers s (Reply.Refused (Refusal.OutOfRange end k))
  form-refused end k is =
      let some : past (map (λ r. r.start + r.len) rs) (len_now s b) ≡ Some (Refusal.OutOfRange end k) = ap (past (map (λ r. r.start + r.len) rs)) (sym len_is) ∙ (past-as len rs ∙ some-past len k end x is (first_past len rs) ends) in
      ap (λ o. or_refused s o (changes_outcome hooks s b (normal_form rs (len_now s b)))) some

  refused-as : (fault : ChangeFault) → x ≡ Err fault → (r : Reply) → Some r ≡ form_told fault → answers s r ≡ replaces_outcome hooks s b rs
  refused-as (ChangeFault.OutOfRange end k) is r told = ap (answers s) (some-inj told) ∙ sym (form-refused end k is)
  refused-as ChangeFault.OutOfMemory is r told = absurd (none-some r (sym told))

  pub form-reply : (fault : ChangeFault) → x ≡ Err fault → {E : Type 0} (final : Result Reply E) → IfOk final (λ r. Some r ≡ form_told fault) → IfOk final (λ r. r ≡ (replaces_outcome hooks s b rs).reply)
  form-reply fault is (Ok r) told = ap (λ (o : Outcome). o.reply) (refused-as fault is r told)
  form-reply fault is (Err e) told = told

  pub form-state : (fault : ChangeFault) → x ≡ Err fault → {E : Type 0} (final : Result Reply E) → IfOk final (λ r. Some r ≡ form_told fault) → OnOk final (s ≡ (replaces_outcome hooks s b rs).state)
  form-state fault is (Ok r) told = ap (λ (o : Outcome). o.state) (refused-as fault is r told)
  form-state fault is (Err e) told = told

pub some-changes : (hooks : HookTable) (s : State) (b : ℕ) (c : ChangeList) → length c.changes ≢ 0 → changes_outcome hooks s b c ≡ edit_outcome hooks s b c
some-changes hooks s b c some = go c.changes refl
  where
    go : (cs : List Change) → c.changes ≡ cs → changes_outcome hooks s b c ≡ edit_outcome hooks s b c
    go [] e = absurd (some (ap length e))
    go (x ∷ xs) e = rw e refl
