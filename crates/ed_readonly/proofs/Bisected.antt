-- The first change that a region forbids, among those that don't end before it.
use Rattle.std.proofs.Common.{◌≡◌, ℕ, zero, suc, ◌+◌, ◌<◌, ◌≤◌, Bool, true, false, List, [], ◌∷◌, length, Option, Some, None, refl, sym, ◌∙◌, ap, inl, inr, arith}
use Rattle.std.specs.Prelude.{max, min, slice_index, option_map, if◌then◌else◌}
use Rattle.std.proofs.lemmas.Bool.{cases_Bool, cases_eq, eq-eqb, ne_eqb, le-ltb, ltb-false}
use Rattle.std.proofs.lemmas.Bool.Decides.{nat_tests}
use Rattle.ed_base.specs.declared.edit.Change.{Change}
use Rattle.ed_base.specs.declared.edit.Span.{Span}
use Rattle.ed_base.specs.declared.mode.EdgeMode.{EdgeMode}
use Rattle.ed_base.specs.ChangeList.{AreNormalFrom}
use Rattle.ed_base.specs.Denial.{Region, forbids, forbids_insertion}
use Rattle.ed_base.specs.Spans.{end_of, shares_unit}
use Rattle.ed_readonly.specs.Denied.{ends, first_forbidden, forbids_at, taken_span}

-- the ends of changes in normal form rise
ends_above : (p n : ℕ) (cs : List Change) (k : ℕ) → AreNormalFrom p n cs → k < length cs → p ≤ slice_index (ends cs) k
ends_above p n [] k normal below = absurd (omega arith)
ends_above p n (c ∷ cs) zero normal below = omega (arith, normal.0)
ends_above p n (c ∷ cs) (suc k) normal below = (let up : c.start + c.old_len + 1 ≤ slice_index (ends cs) k = ends_above (c.start + c.old_len + 1) n cs k normal.3 (omega arith) in omega (arith, up, normal.0))

pub ends_rise : (p n : ℕ) (cs : List Change) (i j : ℕ) → AreNormalFrom p n cs → i ≤ j → j < length cs → slice_index (ends cs) i ≤ slice_index (ends cs) j
ends_rise p n [] i j normal le below = absurd (omega arith)
ends_rise p n (c ∷ cs) zero zero normal le below = omega arith
ends_rise p n (c ∷ cs) zero (suc j) normal le below = (let up : c.start + c.old_len + 1 ≤ slice_index (ends cs) j = ends_above (c.start + c.old_len + 1) n cs j normal.3 (omega arith) in omega (arith, up))
ends_rise p n (c ∷ cs) (suc i) zero normal le below = absurd (omega arith)
ends_rise p n (c ∷ cs) (suc i) (suc j) normal le below = ends_rise (c.start + c.old_len + 1) n cs i j normal.3 (omega arith) (omega arith)

-- ---- what isn't forbidden

insertion_before : (e : EdgeMode) (s : Span) (p : ℕ) → p < s.start → forbids_insertion e s p ≡ false
insertion_before EdgeMode.Allow s p l = grind (arith, nat_tests)
insertion_before EdgeMode.Deny s p l = grind (arith, nat_tests)

insertion_behind : (e : EdgeMode) (s : Span) (p : ℕ) → end_of s < p → forbids_insertion e s p ≡ false
insertion_behind EdgeMode.Allow s p l = grind (arith, nat_tests)
insertion_behind EdgeMode.Deny s p l = grind (arith, nat_tests)

-- an insertion behind the start of the region that isn't forbidden stands at its end or behind it
insertion_past : (e : EdgeMode) (s : Span) (p : ℕ) → s.start < p → forbids_insertion e s p ≡ false → end_of s ≤ p
insertion_past EdgeMode.Allow s p l free = grind (arith, nat_tests)
insertion_past EdgeMode.Deny s p l free = grind (arith, nat_tests)

shares_none : (s t : Span) → min (end_of s) (end_of t) ≤ max s.start t.start → shares_unit s t ≡ false
shares_none s t le = le-ltb (max s.start t.start) (min (end_of s) (end_of t)) le

forbids_if : (r : Region) (c : Change) → (c.old_len ≡ 0 → forbids_insertion r.edge r.span c.start ≡ false) → (0 < c.old_len → shares_unit r.span (taken_span c) ≡ false) → forbids r (taken_span c) ≡ false
forbids_if r c at_gap taking = elim (cases_eq c.old_len 0) [
  | inl e ↦ rw (eq-eqb c.old_len 0 e) (at_gap e)
  | inr ne ↦ rw (ne_eqb c.old_len 0 ne) (taking (omega arith))
]

free_before : (r : Region) (c : Change) → c.start + c.old_len < r.span.start → forbids r (taken_span c) ≡ false
free_before r c l = forbids_if r c (λ e. insertion_before r.edge r.span c.start (omega arith)) (λ some. shares_none r.span (taken_span c) (omega arith))

free_behind : (r : Region) (c : Change) → end_of r.span < c.start → forbids r (taken_span c) ≡ false
free_behind r c l = forbids_if r c (λ e. insertion_behind r.edge r.span c.start l) (λ some. shares_none r.span (taken_span c) (omega arith))

all_behind : (r : Region) (p n : ℕ) (cs : List Change) → end_of r.span < p → AreNormalFrom p n cs → first_forbidden r cs ≡ None
all_behind r p n [] l normal = refl
all_behind r p n (c ∷ cs) l normal = rw (free_behind r c (omega (arith, normal.0))) (ap (option_map suc) (all_behind r (c.start + c.old_len + 1) n cs (omega (arith, normal.0)) normal.3))

-- a change that ends behind the start of the region and isn't forbidden ends at the region's end or behind it
free_past : (r : Region) (c : Change) → r.span.start < c.start + c.old_len → forbids r (taken_span c) ≡ false → end_of r.span ≤ c.start + c.old_len
free_past r c l free = elim (cases_eq c.old_len 0) [
  | inl e ↦ (let gap : forbids_insertion r.edge r.span c.start ≡ false = rw (eq-eqb c.old_len 0 e) at free in
      let past : end_of r.span ≤ c.start = insertion_past r.edge r.span c.start (omega arith) gap in omega arith)
  | inr ne ↦ (let none : shares_unit r.span (taken_span c) ≡ false = rw (ne_eqb c.old_len 0 ne) at free in
      let le : min (end_of r.span) (end_of (taken_span c)) ≤ max r.span.start c.start = ltb-false (max r.span.start c.start) (min (end_of r.span) (end_of (taken_span c))) none in omega arith)
]

-- ---- the first that is

abbrev pub one_of_two : Region → List Change → ℕ → Option ℕ
one_of_two r cs k = if forbids_at r cs k then Some k else if forbids_at r cs (suc k) then Some (suc k) else None

raised : (r : Region) (c : Change) (cs : List Change) (k : ℕ) → option_map suc (one_of_two r cs k) ≡ one_of_two r (c ∷ cs) (suc k)
raised r c cs k = elim (cases_Bool (forbids_at r cs k)) [
  | inl t ↦ rw t refl
  | inr f ↦ rw f (elim (cases_Bool (forbids_at r cs (suc k))) [ inl t ↦ rw t refl | inr g ↦ rw g refl ])
]

lifted : (b : Bool) → option_map suc (if b then Some 0 else None) ≡ (if b then Some 1 else None)
lifted true = refl
lifted false = refl

bisected : (r : Region) (p n : ℕ) (cs : List Change) (k : ℕ) → AreNormalFrom p n cs → ((i : ℕ) → i < k → slice_index (ends cs) i < r.span.start) → (k < length cs → r.span.start ≤ slice_index (ends cs) k) → k ≤ length cs
    → first_forbidden r cs ≡ one_of_two r cs k
bisected r p n [] zero normal before next within = refl
bisected r p n [] (suc k) normal before next within = absurd (omega arith)
bisected r p n (c ∷ cs) (suc k) normal before next within =
    rw (free_before r c (before 0 (omega arith)))
    (ap (option_map suc) (bisected r (c.start + c.old_len + 1) n cs k normal.3 (λ i l. before (suc i) (omega arith)) (λ l. next (omega arith)) (omega arith)) ∙ raised r c cs k)
bisected r p n (c ∷ cs) zero normal before next within = elim (cases_Bool (forbids r (taken_span c))) [
  | inl t ↦ rw t refl
  | inr f ↦ rw f (ap (option_map suc) (second cs normal.3) ∙ lifted (forbids_at r cs 0))
]
  where
    at : r.span.start ≤ c.start + c.old_len
    at = next (omega arith)

    second : (ds : List Change) → AreNormalFrom (c.start + c.old_len + 1) n ds → first_forbidden r ds ≡ (if forbids_at r ds 0 then Some 0 else None)
    second [] normal' = refl
    second (d ∷ ds) normal' = elim (cases_Bool (forbids r (taken_span d))) [
      | inl t ↦ rw t refl
      | inr g ↦ rw g (ap (option_map suc) (all_behind r (d.start + d.old_len + 1) n ds (let past : end_of r.span ≤ d.start + d.old_len = free_past r d (omega (arith, at, normal'.0)) g in omega arith) normal'.3))
    ]

pub found_first : (r : Region) (n : ℕ) (cs : List Change) (k : ℕ) → AreNormalFrom 0 n cs → ((i : ℕ) → i < k → slice_index (ends cs) i < r.span.start) → (k < length cs → r.span.start ≤ slice_index (ends cs) k) → k ≤ length cs
    → forbids_at r cs k ≡ true → Some k ≡ first_forbidden r cs
found_first r n cs k normal before next within here = sym (bisected r 0 n cs k normal before next within ∙ rw here refl)

pub found_next : (r : Region) (n : ℕ) (cs : List Change) (k : ℕ) → AreNormalFrom 0 n cs → ((i : ℕ) → i < k → slice_index (ends cs) i < r.span.start) → (k < length cs → r.span.start ≤ slice_index (ends cs) k) → k ≤ length cs
    → forbids_at r cs k ≡ false → forbids_at r cs (k + 1) ≡ true → Some (k + 1) ≡ first_forbidden r cs
found_next r n cs k normal before next within here there =
    let e : k + 1 ≡ suc k = omega arith in
    ap Some e ∙ sym (bisected r 0 n cs k normal before next within ∙ rw here (rw (ap (forbids_at r cs) (sym e) ∙ there) refl))

pub found_none : (r : Region) (n : ℕ) (cs : List Change) (k : ℕ) → AreNormalFrom 0 n cs → ((i : ℕ) → i < k → slice_index (ends cs) i < r.span.start) → (k < length cs → r.span.start ≤ slice_index (ends cs) k) → k ≤ length cs
    → forbids_at r cs k ≡ false → forbids_at r cs (k + 1) ≡ false → None ≡ first_forbidden r cs
found_none r n cs k normal before next within here there =
    let e : k + 1 ≡ suc k = omega arith in
    sym (bisected r 0 n cs k normal before next within ∙ rw here (rw (ap (forbids_at r cs) (sym e) ∙ there) refl))
