-- Kept pairs on both sides of a new place.
use Rattle.std.proofs.Common.{◌≡◌, ℕ, zero, suc, ◌+◌, ◌-◌, ◌<◌, ◌≤◌, Bool, true, false, List, [], ◌∷◌, ◌++◌, length, Some, None, true≢false, refl, sym, ap, ◌∙◌, arith}
use Rattle.std.specs.Prelude.{find, nat_eq, nat_lt, is_some}
use Rattle.std.proofs.lemmas.Bool.{lt-ltb, le-ltb, eq-eqb, ne_eqb}
use Rattle.ed_base.specs.declared.edit.Change.{Change}
use Rattle.ed_base.specs.ChangeList.{AreNormalFrom}
use Rattle.ed_base.specs.Numbers.{find_last}
use Rattle.ed_base.proofs.NormalSteps.{run, kept_from}

-- pairs whose new places are all from j on, or all below j
abbrev pub AreFrom : ℕ → List (ℕ × ℕ) → Type 0
AreFrom j [] = Unit {0}
AreFrom j (pair ∷ pairs) = (j ≤ pair.1) × AreFrom j pairs

abbrev pub AreBelow : ℕ → List (ℕ × ℕ) → Type 0
AreBelow j [] = Unit {0}
AreBelow j (pair ∷ pairs) = (pair.1 < j) × AreBelow j pairs

abbrev pub at : ℕ → ℕ × ℕ → Bool
at q pair = nat_eq pair.1 q

abbrev pub under : ℕ → ℕ × ℕ → Bool
under q pair = nat_lt pair.1 q

abbrev pub over : ℕ → ℕ × ℕ → Bool
over q pair = nat_lt q pair.1

pub from_append : (j : ℕ) (xs ys : List (ℕ × ℕ)) → AreFrom j xs → AreFrom j ys → AreFrom j (xs ++ ys)
from_append j [] ys a b = b
from_append j (x ∷ xs) ys a b = (a.0, from_append j xs ys a.1 b)

pub below_append : (j : ℕ) (xs ys : List (ℕ × ℕ)) → AreBelow j xs → AreBelow j ys → AreBelow j (xs ++ ys)
below_append j [] ys a b = b
below_append j (x ∷ xs) ys a b = (a.0, below_append j xs ys a.1 b)

pub below_later : (j k : ℕ) (xs : List (ℕ × ℕ)) → j ≤ k → AreBelow j xs → AreBelow k xs
below_later j k [] le a = tt
below_later j k (x ∷ xs) le a = (omega (arith, a.0), below_later j k xs le a.1)

pub run_from : (i j k d : ℕ) → d ≤ j → AreFrom d (run i j k)
run_from i j zero d le = tt
run_from i j (suc k) d le = (le, run_from (i + 1) (j + 1) k d (omega arith))

pub run_below : (i j k : ℕ) → AreBelow (j + k) (run i j k)
run_below i j zero = tt
run_below i j (suc k) = let e : j + 1 + k ≡ j + suc k = omega arith in (omega arith, below_later (j + 1 + k) (j + suc k) (run (i + 1) (j + 1) k) (omega arith) (run_below (i + 1) (j + 1) k))

pub kept_are_from : (i j n d : ℕ) (cs : List Change) → d ≤ j → AreFrom d (kept_from i j n cs)
kept_are_from i j n d [] le = run_from i j (n - i) d le
kept_are_from i j n d (c ∷ cs) le = from_append d (run i j (c.start - i)) (kept_from (c.start + c.old_len) (j + (c.start - i) + length c.text) n cs) (run_from i j (c.start - i) d le) (kept_are_from (c.start + c.old_len) (j + (c.start - i) + length c.text) n d cs (omega arith))

-- ---- what a search finds

pub none_at_from : (q j : ℕ) (xs : List (ℕ × ℕ)) → q < j → AreFrom j xs → find (at q) xs ≡ None
none_at_from q j [] less a = refl
none_at_from q j (x ∷ xs) less a = rw (ne_eqb x.1 q (λ e. omega (arith, less, a.0, e))) (none_at_from q j xs less a.1)

pub none_at_below : (q j : ℕ) (xs : List (ℕ × ℕ)) → j ≤ q → AreBelow j xs → find (at q) xs ≡ None
none_at_below q j [] le a = refl
none_at_below q j (x ∷ xs) le a = rw (ne_eqb x.1 q (λ e. omega (arith, le, a.0, e))) (none_at_below q j xs le a.1)

pub none_under : (q j : ℕ) (xs : List (ℕ × ℕ)) → q ≤ j → AreFrom j xs → find_last (under q) xs ≡ None
none_under q j [] le a = refl
none_under q j (x ∷ xs) le a = rw (none_under q j xs le a.1, le-ltb x.1 q (omega (arith, le, a.0))) refl

pub none_over : (q j : ℕ) (xs : List (ℕ × ℕ)) → j ≤ suc q → AreBelow j xs → find (over q) xs ≡ None
none_over q j [] le a = refl
none_over q j (x ∷ xs) le a = rw (le-ltb q x.1 (omega (arith, le, a.0))) (none_over q j xs le a.1)

pub find_behind : (t : ℕ × ℕ → Bool) (xs ys : List (ℕ × ℕ)) → find t xs ≡ None → find t (xs ++ ys) ≡ find t ys
find_behind t [] ys none = refl
find_behind t (x ∷ xs) ys none = front (t x) refl (λ n. find_behind t xs ys n)
  where
    found : t x ≡ true → find t (x ∷ xs) ≡ Some x
    found is = rw is refl

    skip : t x ≡ false → find t xs ≡ find t (x ∷ xs)
    skip is = rw is refl

    front : (b : Bool) → t x ≡ b → (find t xs ≡ None → find t (xs ++ ys) ≡ find t ys) → find t (x ∷ xs ++ ys) ≡ find t ys
    front true is again = absurd (true≢false (ap is_some (sym (found is) ∙ none)))
    front false is again = rw is (again (skip is ∙ none))

-- the pair of a kept unit
pub run_at : (i j k d p q : ℕ) (ys : List (ℕ × ℕ)) → d < k → q ≡ j + d → p ≡ i + d → find (at q) (run i j k ++ ys) ≡ Some (p, q)
run_at i j zero d p q ys less is is' = absurd (omega arith)
run_at i j (suc k) zero p q ys less is is' = let e : j ≡ q = omega (arith, is) in let e' : i ≡ p = omega (arith, is') in rw (eq-eqb j q e) (ap (λ x. Some (x, j)) e' ∙ ap (λ y. Some (p, y)) e)
run_at i j (suc k) (suc d) p q ys less is is' = rw (ne_eqb j q (λ s. omega (arith, s, is))) (run_at (i + 1) (j + 1) k d p q ys (omega arith) (omega (arith, is)) (omega (arith, is')))

-- the last pair below a place
pub last_behind : (t : ℕ × ℕ → Bool) (xs ys : List (ℕ × ℕ)) → find_last t ys ≡ None → find_last t (xs ++ ys) ≡ find_last t xs
last_behind t [] ys none = none
last_behind t (x ∷ xs) ys none = rw (last_behind t xs ys none) refl

pub last_some : (t : ℕ × ℕ → Bool) (z : ℕ × ℕ) (xs ys : List (ℕ × ℕ)) → find_last t ys ≡ Some z → find_last t (xs ++ ys) ≡ Some z
last_some t z [] ys is = is
last_some t z (x ∷ xs) ys is = rw (last_some t z xs ys is) refl

pub run_last : (i j k p q r : ℕ) → p ≡ i + k → r ≡ j + k → r < q → find_last (under q) (run i j (suc k)) ≡ Some (p, r)
run_last i j zero p q r is is' less = let e : j ≡ r = omega (arith, is') in let e' : i ≡ p = omega (arith, is) in rw (lt-ltb j q (omega (arith, less, e))) (ap (λ x. Some (x, j)) e' ∙ ap (λ y. Some (p, y)) e)
run_last i j (suc k) p q r is is' less = rw (run_last (i + 1) (j + 1) k p q r (omega (arith, is)) (omega (arith, is')) less) refl

-- the first pair of what follows a change
pub first_over : (i j n q : ℕ) (cs : List Change) → AreNormalFrom (i + 1) n cs → q < j → i < n → find (over q) (kept_from i j n cs) ≡ Some (i, j)
first_over i j n q [] normal less some = let e : n - i ≡ suc (n - i - 1) = omega (arith, some) in rw (e, lt-ltb q j less) refl
first_over i j n q (c ∷ cs) normal less some = let e : c.start - i ≡ suc (c.start - i - 1) = omega (arith, normal.0) in rw (e, lt-ltb q j less) refl

pub no_pairs : (i j n : ℕ) (cs : List Change) → AreNormalFrom (i + 1) n cs → n ≤ i → kept_from i j n cs ≡ []
no_pairs i j n [] normal none = let e : n - i ≡ 0 = omega (arith, none) in rw e refl
no_pairs i j n (c ∷ cs) normal none = absurd (omega (arith, normal.0, normal.1, none))
