-- The edges over kept pairs, and over pairs in a row.
use Rattle.std.proofs.Common.{◌≡◌, ℕ, zero, suc, ◌+◌, ◌-◌, ◌<◌, ◌≤◌, true, false, List, [], ◌∷◌, ◌++◌, Option, Some, None, refl, sym, ap, ◌∙◌, arith, inl, inr}
use Rattle.std.specs.Prelude.{nat_le, nat_lt, find, option_map, unwrap_or, if◌then◌else◌}
use Rattle.std.proofs.lemmas.Bool.{cases_lt}
use Rattle.std.proofs.lemmas.Bool.Decides.{nat_tests}
use Rattle.ed_base.specs.Numbers.{find_last, or_else}
use Rattle.ed_base.proofs.NormalSteps.{run}

-- the new place of the first pair whose old place is at least p, or m
abbrev pub first_new : ℕ → ℕ → List (ℕ × ℕ) → ℕ
first_new m p pairs = unwrap_or (option_map (λ pair. pair.1) (find (λ pair. nat_le p pair.0) pairs)) m

-- one more than the new place of the last pair whose old place is below p, or v
abbrev pub past_last : ℕ → ℕ → List (ℕ × ℕ) → ℕ
past_last v p pairs = unwrap_or (option_map (λ pair. pair.1 + 1) (find_last (λ pair. nat_lt pair.0 p) pairs)) v

first_here : (m p : ℕ) (x : ℕ × ℕ) (xs : List (ℕ × ℕ)) → p ≤ x.0 → first_new m p (x ∷ xs) ≡ x.1
first_here m p x xs reached = rw (let t : nat_le p x.0 ≡ true = grind (arith, nat_tests) in t) refl

first_later : (m p : ℕ) (x : ℕ × ℕ) (xs : List (ℕ × ℕ)) → x.0 < p → first_new m p (x ∷ xs) ≡ first_new m p xs
first_later m p x xs passed = rw (let f : nat_le p x.0 ≡ false = grind (arith, nat_tests) in f) refl

pub first_append : (m p : ℕ) (xs ys : List (ℕ × ℕ)) → first_new m p (xs ++ ys) ≡ first_new (first_new m p ys) p xs
first_append m p [] ys = refl
first_append m p (x ∷ xs) ys = elim (cases_lt x.0 p) [
  | inl passed ↦ first_later m p x (xs ++ ys) passed ∙ first_append m p xs ys ∙ sym (first_later (first_new m p ys) p x xs passed)
  | inr reached ↦ first_here m p x (xs ++ ys) reached ∙ sym (first_here (first_new m p ys) p x xs reached)
]

either : (v : ℕ) (a b : Option (ℕ × ℕ)) → unwrap_or (option_map (λ pair. pair.1 + 1) (or_else a b)) v ≡ unwrap_or (option_map (λ pair. pair.1 + 1) a) (unwrap_or (option_map (λ pair. pair.1 + 1) b) v)
either v None b = refl
either v (Some a) b = refl

last_here : (v p : ℕ) (x : ℕ × ℕ) (xs : List (ℕ × ℕ)) → x.0 < p → past_last v p (x ∷ xs) ≡ past_last (x.1 + 1) p xs
last_here v p x xs below =
    either v (find_last (λ pair. nat_lt pair.0 p) xs) (if nat_lt x.0 p then Some x else None)
    ∙ rw (let t : nat_lt x.0 p ≡ true = grind (arith, nat_tests) in t) refl

last_none : (v p : ℕ) (x : ℕ × ℕ) (xs : List (ℕ × ℕ)) → p ≤ x.0 → past_last v p (x ∷ xs) ≡ past_last v p xs
last_none v p x xs above =
    either v (find_last (λ pair. nat_lt pair.0 p) xs) (if nat_lt x.0 p then Some x else None)
    ∙ rw (let f : nat_lt x.0 p ≡ false = grind (arith, nat_tests) in f) refl

pub last_append : (v p : ℕ) (xs ys : List (ℕ × ℕ)) → past_last v p (xs ++ ys) ≡ past_last (past_last v p xs) p ys
last_append v p [] ys = refl
last_append v p (x ∷ xs) ys = elim (cases_lt x.0 p) [
  | inl below ↦ last_here v p x (xs ++ ys) below ∙ last_append (x.1 + 1) p xs ys ∙ ap (λ w. past_last w p ys) (sym (last_here v p x xs below))
  | inr above ↦ last_none v p x (xs ++ ys) above ∙ last_append v p xs ys ∙ ap (λ w. past_last w p ys) (sym (last_none v p x xs above))
]

-- The first pair of a row.
pub first_in : (m p i j k : ℕ) → p < i + k → 0 < k → first_new m p (run i j k) ≡ j + (p - i)
first_in m p i j zero inside some = absurd (omega arith)
first_in m p i j (suc k) inside some = elim (cases_lt i p) [
  | inl passed ↦
      let rest : first_new m p (run (i + 1) (j + 1) k) ≡ j + 1 + (p - (i + 1)) = first_in m p (i + 1) (j + 1) k (omega arith) (omega arith) in
      first_later m p (i, j) (run (i + 1) (j + 1) k) passed ∙ rest ∙ omega arith
  | inr reached ↦ first_here m p (i, j) (run (i + 1) (j + 1) k) reached ∙ omega arith
]

pub first_past : (m p i j k : ℕ) → i + k ≤ p → first_new m p (run i j k) ≡ m
first_past m p i j zero past = refl
first_past m p i j (suc k) past =
    first_later m p (i, j) (run (i + 1) (j + 1) k) (omega arith) ∙ first_past m p (i + 1) (j + 1) k (omega arith)

-- a row up to the end m of the text
pub first_to_end : (m p i j k : ℕ) → p ≤ i + k → j + k ≡ m → first_new m p (run i j k) ≡ j + (p - i)
first_to_end m p i j zero within end = omega arith
first_to_end m p i j (suc k) within end = elim (cases_lt p (i + suc k)) [
  | inl inside ↦ first_in m p i j (suc k) inside (omega arith)
  | inr past ↦ first_past m p i j (suc k) past ∙ omega arith
]

-- The last pair of a row.
pub last_before : (v p i j k : ℕ) → p ≤ i → past_last v p (run i j k) ≡ v
last_before v p i j zero before = refl
last_before v p i j (suc k) before =
    last_none v p (i, j) (run (i + 1) (j + 1) k) before ∙ last_before v p (i + 1) (j + 1) k (omega arith)

pub last_in : (v p i j k : ℕ) → i < p → p ≤ i + k → past_last v p (run i j k) ≡ j + (p - i)
last_in v p i j zero above within = absurd (omega arith)
last_in v p i j (suc k) above within = last_here v p (i, j) (run (i + 1) (j + 1) k) above ∙ elim (cases_lt (i + 1) p) [
  | inl more ↦ last_in (j + 1) p (i + 1) (j + 1) k more (omega arith) ∙ omega arith
  | inr none ↦ last_before (j + 1) p (i + 1) (j + 1) k none ∙ omega arith
]

pub last_past : (v p i j k : ℕ) → i + k ≤ p → 0 < k → past_last v p (run i j k) ≡ j + k
last_past v p i j zero past some = absurd (omega arith)
last_past v p i j (suc zero) past some = last_here v p (i, j) (run (i + 1) (j + 1) zero) (omega arith) ∙ omega arith
last_past v p i j (suc (suc k)) past some =
    last_here v p (i, j) (run (i + 1) (j + 1) (suc k)) (omega arith) ∙ last_past (j + 1) p (i + 1) (j + 1) (suc k) (omega arith) (omega arith) ∙ omega arith
