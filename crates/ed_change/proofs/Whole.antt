-- An edit and its change list: what the pass over the sorted replaces gives.
use Rattle.std.proofs.Common.{◌≡◌, ℕ, zero, suc, ◌+◌, ◌-◌, ◌<◌, ◌≤◌, max, ◌↔◌, true, false, nat_eq, nat_le, nat_lt, ◌&&◌, List, [], ◌∷◌, ◌++◌, length, map, get_or, replicate, Option, Some, None, refl, sym, ap, ◌∙◌, arith, length-append, inl, inr}
use Rattle.std.specs.List.{All, range_with_len}
use Rattle.std.specs.List.Sorted.{IsNonDecreasingBy}
use Rattle.std.proofs.lemmas.List.{length-replicate, length-map, map-append, get_or-map}
use Rattle.std.proofs.lemmas.List.FromFn.{length-range_with_len}
use Rattle.std.proofs.lemmas.List.Sums.{sum_by-cons}
use Rattle.std.proofs.lemmas.List.Sorted.{list_any-IsPermutation, sum_by-IsPermutation, All-permutation, IsPermutation-sym}
use Rattle.std.proofs.lemmas.Bool.{cases_Bool}
use Rattle.std.proofs.lemmas.Bool.Decides.{nat_tests}
use denote.Ref.{Bor}
use Rattle.ed_base.specs.declared.edit.Change.{Change}
use Rattle.ed_base.specs.declared.edit.Replace.{Replace}
use Rattle.ed_base.specs.Edit.{inserted_at, is_deleted, edited, origins, units_put_in}
use Rattle.ed_base.specs.Step.{Step, step_of, pairs_from}
use Rattle.ed_base.specs.ChangeList.{ChangeList, change, normal_form, applied, step, new_len, inserted_len, AreNormalFrom}
use Rattle.ed_base.proofs.NormalLists.{given, sum_by_given}
use Rattle.ed_change.specs.Ranges.{AllWithin, AllIdle, first_past}
use Rattle.ed_change.specs.Sweep.{AreInOrder, change_if, sweep}
use Rattle.ed_change.proofs.Parts.{forth, parts, forth_parts}
use Rattle.ed_base.proofs.NormalSteps.{spliced, olds, unplaced, edit_of, normal_origins}
use Rattle.ed_change.proofs.Splicing.{itself, normal_forth, spliced_forth}
use Rattle.ed_change.proofs.SortedParts.{RisesFrom, parts_same, sweep_all}
use Rattle.ed_change.proofs.Laws.{listed, applied_spliced}

rises_after : (p n : ℕ) (rs : List Replace) → RisesFrom 0 n rs → ((d : Replace) → 0 < length rs → p ≤ (get_or rs 0 d).start) → RisesFrom p n rs
rises_after p n [] h l = tt
rises_after p n (r ∷ rs) h l = (l r (omega arith), h.1, h.2)

rises_sorted : (n : ℕ) (rs : List Replace) → IsNonDecreasingBy (λ r. r.start) rs → AllWithin n rs → RisesFrom 0 n rs
rises_sorted n [] h w = tt
rises_sorted n (r ∷ rs) h w =
    let later : RisesFrom 0 n rs = rises_sorted n rs (λ i j d le lt. h (suc i) (suc j) d (omega arith) (omega arith)) (λ k d lt. w (suc k) d (omega arith)) in
    (omega arith, w 0 r (omega arith), rises_after r.start n rs later (λ d l. h 0 1 d (omega arith) (omega arith)))

-- the changes of the normal form are the parts, for any text of that length
normal_parts : (rs : List Replace) (xs : List ℕ) → (normal_form rs (length xs)).changes ≡ map forth (parts (inserted_at rs) (is_deleted rs) 0 0 0 [] [] xs)
normal_parts rs xs = forth_parts (inserted_at rs) (is_deleted rs) (edited rs (replicate (length xs) 0)) 0 0 0 [] [] xs (length xs) (length (origins rs (length xs))) refl refl (omega arith) (omega arith)

given_append : (cs ds : List Change) → given (cs ++ ds) ≡ given cs + given ds
given_append [] ds = omega arith
given_append (c ∷ cs) ds = omega (arith, given_append cs ds)

given_if : (i e : ℕ) (text : List ℕ) → given (change_if i e text) ≡ length text
given_if i e [] = grind arith
given_if i e (u ∷ us) = omega arith

-- the pass puts in what the replaces put in
given_sweep : (i e : ℕ) (text : List ℕ) (rs : List Replace) → given (sweep i e text rs) ≡ length text + units_put_in rs
given_sweep i e text [] = given_if i e text ∙ omega arith
given_sweep i e text (r ∷ rs) =
    let more : units_put_in (r ∷ rs) ≡ length r.text + units_put_in rs = sum_by-cons (λ (x : Replace). length x.text) r rs in
    elim (cases_Bool (nat_le r.start e)) [
      | inl t ↦ rw t (given_sweep i (max e (r.start + r.len)) (text ++ r.text) rs ∙ omega (arith, length-append text r.text, more))
      | inr f ↦ rw f (given_append (change_if i e text) (sweep r.start (r.start + r.len) r.text rs) ∙ omega (arith, given_if i e text, given_sweep r.start (r.start + r.len) r.text rs, more))
    ]

nil_left : {X : Type 0} (xs ys : List X) → xs ++ ys ≡ [] → xs ≡ []
nil_left [] ys h = refl
nil_left (x ∷ xs) ys h = cc

nil_right : {X : Type 0} (xs ys : List X) → xs ++ ys ≡ [] → ys ≡ []
nil_right [] ys h = h
nil_right (x ∷ xs) ys h = cc

abbrev Idle : List Replace → Type 0
Idle [] = Unit {0}
Idle (r ∷ rs) = (r.len ≡ 0) × (r.text ≡ []) × Idle rs

idle_all : (rs : List Replace) → Idle rs → AllIdle rs
idle_all [] h k d l = absurd (omega arith)
idle_all (r ∷ rs) h zero d l = (h.0, h.1)
idle_all (r ∷ rs) h (suc k) d l = idle_all rs h.2 k d (omega arith)

all_idle : (rs : List Replace) → AllIdle rs → Idle rs
all_idle [] h = tt
all_idle (r ∷ rs) h = ((h 0 r (omega arith)).0, (h 0 r (omega arith)).1, all_idle rs (λ k d l. h (suc k) d (omega arith)))

-- the pass gives no change where no replace does anything
idle_if : (i e : ℕ) (text : List ℕ) → change_if i e text ≡ [] → (i ≡ e) × (text ≡ [])
idle_if i e [] h = elim (cases_Bool (nat_eq i e)) [
  | inl t ↦ (grind (arith, nat_tests), refl)
  | inr f ↦ let h' : change i (e - i) [] ∷ [] ≡ [] = rw f at h in absurd (cc)
]
idle_if i e (u ∷ us) h = absurd (cc)

idle_sweep : (i p e n : ℕ) (text : List ℕ) (rs : List Replace) → i ≤ p → p ≤ e → RisesFrom p n rs → sweep i e text rs ≡ [] → (i ≡ e) × (text ≡ []) × Idle rs
idle_sweep i p e n text [] l m h s = let f : (i ≡ e) × (text ≡ []) = idle_if i e text s in (f.0, f.1, tt)
idle_sweep i p e n text (r ∷ rs) l m h s =
    let low : p ≤ r.start = h.0 in
    elim (cases_Bool (nat_le r.start e)) [
      | inl t ↦
          let f : (i ≡ max e (r.start + r.len)) × (text ++ r.text ≡ []) × Idle rs = idle_sweep i r.start (max e (r.start + r.len)) n (text ++ r.text) rs (omega arith) (omega arith) h.2 (rw t at s) in
          let end : i ≡ max e (r.start + r.len) = f.0 in
          (omega arith, nil_left text r.text f.1, (omega arith, nil_right text r.text f.1, f.2))
      | inr g ↦
          let s' : change_if i e text ++ sweep r.start (r.start + r.len) r.text rs ≡ [] = rw g at s in
          let here : (i ≡ e) × (text ≡ []) = idle_if i e text (nil_left (change_if i e text) _ s') in
          let f : (r.start ≡ r.start + r.len) × (r.text ≡ []) × Idle rs = idle_sweep r.start r.start (r.start + r.len) n r.text rs (omega arith) (omega arith) h.2 (nil_right (change_if i e text) _ s') in
          let end : r.start ≡ r.start + r.len = f.0 in
          (here.0, here.1, (omega arith, f.1, f.2))
    ]

sweep_idle : (i : ℕ) (rs : List Replace) → Idle rs → sweep i i [] rs ≡ []
sweep_idle i [] h = let t : nat_eq i i ≡ true = grind (arith, nat_tests) in rw t refl
sweep_idle i (r ∷ rs) h =
    let none : r.len ≡ 0 = h.0 in
    let same : nat_eq i i ≡ true = grind (arith, nat_tests) in
    elim (cases_Bool (nat_le r.start i)) [
      | inl t ↦
          let below : r.start ≤ i = grind (arith, nat_tests) in
          let w : max i (r.start + r.len) ≡ i = omega arith in
          rw (t, w, h.1) (sweep_idle i rs h.2)
      | inr f ↦
          let w : r.start + r.len ≡ r.start = omega arith in
          rw (f, same, w, h.1) (sweep_idle r.start rs h.2)
    ]

-- the step in which the units come from these places
abbrev step_from : ℕ → List (Option ℕ) → Step
step_from n units = record { old_len = n; new_len = length units; kept = pairs_from 0 units }

module _ (n : ℕ) (all sorted : List Replace) (order : AreInOrder all sorted) (within : AllWithin n all) where
  sorted_rises : RisesFrom 0 n sorted
  sorted_rises = rises_sorted n sorted order.rising (All-permutation (λ (r : Replace). r.start + r.len ≤ n) all sorted order.same within)

  swept_parts : {X : Type 0} (xs : List X) → length xs ≡ n → map forth (parts (inserted_at all) (is_deleted all) 0 0 0 [] [] xs) ≡ sweep 0 0 [] sorted
  swept_parts xs e =
      let same : parts (inserted_at all) (is_deleted all) 0 0 0 [] [] xs ≡ parts (inserted_at sorted) (is_deleted sorted) 0 0 0 [] [] xs =
      parts_same (inserted_at all) (inserted_at sorted) (is_deleted all) (is_deleted sorted) 0 0 0 [] [] [] xs (λ q l. sym (order.stable q)) (λ q l. list_any-IsPermutation (λ (r : Replace). nat_le r.start q && nat_lt q (r.start + r.len)) all sorted order.same) (sym (order.stable 0)) in
      rw same (sweep_all sorted xs (rw e sorted_rises))

  pub swept_normal_form : normal_form all n ≡ listed n (sweep 0 0 [] sorted)
  swept_normal_form =
      let zeros : List ℕ = replicate n 0 in
      let e : length zeros ≡ n = length-replicate n 0 in
      let found : (normal_form all (length zeros)).changes ≡ sweep 0 0 [] sorted = normal_parts all zeros ∙ swept_parts zeros e in
      let found' : (normal_form all n).changes ≡ sweep 0 0 [] sorted = rw e at found in
      ap (λ cs. listed n cs) found'

  pub swept_normal : AreNormalFrom 0 n (sweep 0 0 [] sorted)
  swept_normal =
      let zeros : List ℕ = replicate n 0 in
      let e : length zeros ≡ n = length-replicate n 0 in
      let same : map forth (parts (inserted_at all) (is_deleted all) 0 0 0 [] [] zeros) ≡ sweep 0 0 [] sorted = swept_parts zeros e in
      rw same at (normal_forth (inserted_at all) (is_deleted all) 0 0 0 [] [] zeros n refl (omega (arith, e)))

  pub swept_text : (text : List ℕ) → length text ≡ n → applied (normal_form all n) text ≡ edited all text
  swept_text text e =
      let found : spliced itself 0 (sweep 0 0 [] sorted) text ≡ edited all text = rw (swept_parts text e) at (spliced_forth (inserted_at all) (is_deleted all) itself refl (λ s t. refl) 0 0 0 [] [] text refl) in
      ap (λ c. applied c text) swept_normal_form ∙ applied_spliced (listed n (sweep 0 0 [] sorted)) text e swept_normal ∙ found

  -- the step of the changes is the step of the edit
  pub swept_step : step (normal_form all n) ≡ step_of all n
  swept_step =
      let size : length (olds 0 n) ≡ n = length-map (range_with_len 0 n) _ ∙ length-range_with_len 0 n in
      let from_changes : origins (edit_of (sweep 0 0 [] sorted)) n ≡ spliced unplaced 0 (sweep 0 0 [] sorted) (olds 0 n) = normal_origins n (sweep 0 0 [] sorted) swept_normal in
      let from_edit : spliced unplaced 0 (sweep 0 0 [] sorted) (olds 0 n) ≡ origins all n = rw (swept_parts (olds 0 n) size) at (spliced_forth (inserted_at all) (is_deleted all) unplaced refl (λ s t. map-append _ s t) 0 0 0 [] [] (olds 0 n) refl) in
      ap step swept_normal_form ∙ ap (λ us. step_from n us) (from_changes ∙ from_edit)

  pub swept_new_len : new_len (listed n (sweep 0 0 [] sorted)) ≤ n + units_put_in all
  swept_new_len = omega (arith, sum_by_given (sweep 0 0 [] sorted), given_sweep 0 0 [] sorted, sum_by-IsPermutation (λ r. length r.text) all sorted order.same)

  pub swept_inserted : inserted_len (listed n (sweep 0 0 [] sorted)) ≡ units_put_in all
  swept_inserted = omega (arith, sum_by_given (sweep 0 0 [] sorted), given_sweep 0 0 [] sorted, sum_by-IsPermutation (λ r. length r.text) all sorted order.same)

  pub swept_nothing : (sweep 0 0 [] sorted ≡ []) ↔ AllIdle all
  swept_nothing = (
    λ h. All-permutation (λ (r : Replace). (r.len ≡ 0) × (r.text ≡ [])) sorted all (IsPermutation-sym all sorted order.same) (idle_all sorted (idle_sweep 0 0 0 n [] sorted (omega arith) (omega arith) sorted_rises h).2),
    λ h. sweep_idle 0 sorted (all_idle sorted (All-permutation (λ (r : Replace). (r.len ≡ 0) × (r.text ≡ [])) all sorted order.same h)),
  )

-- the replaces as the pass takes them
pub lent_within : (m n : ℕ) (all : List Replace) (xs : List (Bor Replace)) → AreInOrder all (map (λ b. b.now) xs) → AllWithin n all → n < m → All (λ b. b.now.start + b.now.len < m) xs
lent_within m n all xs order within l k d lt =
    let len : length (map (λ b. b.now) xs) ≡ length xs = length-map xs _ in
    let w : AllWithin n (map (λ b. b.now) xs) = All-permutation (λ (r : Replace). r.start + r.len ≤ n) all (map (λ b. b.now) xs) order.same within in
    let h : (get_or xs k d).now.start + (get_or xs k d).now.len ≤ n = rw (get_or-map (λ (b : Bor Replace). b.now) xs k d d.now lt) at (w k d.now (omega arith)) in
    omega arith

within_cons : (n : ℕ) (r : Replace) (rs : List Replace) → nat_lt n (r.start + r.len) ≡ false → AllWithin n rs → AllWithin n (r ∷ rs)
within_cons n r rs f h zero d l = grind (arith, nat_tests)
within_cons n r rs f h (suc k) d l = h k d (omega arith)

-- where none ends past the text each ends within it
pub none_past : (n : ℕ) (rs : List Replace) → first_past n rs ≡ None → AllWithin n rs
none_past n [] h = λ k d l. absurd (omega arith)
none_past n (r ∷ rs) h = elim (cases_Bool (nat_lt n (r.start + r.len))) [
  | inl t ↦ let h' : Some r ≡ None = rw t at h in absurd (cc)
  | inr f ↦ within_cons n r rs f (none_past n rs (rw f at h))
]

-- What holds of a list that is made of what the pass gives.
pub record IsMerged (n : ℕ) (all : List Replace) (c : ChangeList) : Type 0 where
  pub normal : c ≡ normal_form all n
  pub text : (text : List ℕ) → length text ≡ n → applied c text ≡ edited all text
  pub step : step c ≡ step_of all n
  pub inserted : inserted_len c ≡ units_put_in all
  pub nothing : (c.changes ≡ []) ↔ AllIdle all

pub is_merged : (n : ℕ) (all sorted : List Replace) → AreInOrder all sorted → AllWithin n all → (items : List Change) (c : ChangeList) → items ≡ sweep 0 0 [] sorted → c ≡ listed n items → IsMerged n all c
is_merged n all sorted order within items c e h =
    let swept : normal_form all n ≡ listed n (sweep 0 0 [] sorted) = swept_normal_form n all sorted order within in
    let same : c ≡ listed n (sweep 0 0 [] sorted) = h ∙ ap (λ cs. listed n cs) e in
    record {
      normal = same ∙ sym swept;
      text = λ text l. ap (λ d. applied d text) (same ∙ sym swept) ∙ swept_text n all sorted order within text l;
      step = ap step (same ∙ sym swept) ∙ swept_step n all sorted order within;
      inserted = ap inserted_len same ∙ swept_inserted n all sorted order within;
      nothing = rw same (swept_nothing n all sorted order within);
    }
