-- Rows whose nodes have enough units.
use Rattle.std.proofs.lemmas.List.{get_or_append_left, get_or-append-add}
use Rattle.std.proofs.lemmas.Bool.{cases_lt}
use Rattle.std.proofs.Common.{inl, inr}
use Rattle.std.proofs.Common.{refl, subst, ◌≡◌, ℕ, suc, ◌+◌, ◌*◌, ◌≤◌, ◌<◌, List, [], ◌∷◌, ◌++◌, length, arith, length-append}
use Rattle.std.specs.List.{flat_map}
use Rattle.std.proofs.Math.Nat.{suc-mul}
use Rattle.ed_text.specs.Balance.{AreHalfFull, IsBalanced}

-- how many units a half_full row has at least
pub half_full_len : {X : Type 0} (f : X → List ℕ) (w : ℕ) (xs : List X) → AreHalfFull f w xs → length xs * w ≤ length (flat_map f xs)
half_full_len f w [] h = omega arith
half_full_len f w (x ∷ xs) h = omega (arith, half_full_len f w xs (λ k d l. h (suc k) d (omega arith)), h 0 x (omega arith), length-append (f x) (flat_map f xs), suc-mul (length xs) w)

module _ {X : Type 0} (f : X → List ℕ) (w : ℕ) where
  pub half_full_front : (xs ys : List X) → AreHalfFull f w (xs ++ ys) → AreHalfFull f w xs
  half_full_front xs ys h = λ k d l. let P : X → Type 0 = λ z. w ≤ length (f z) in subst P (get_or_append_left xs ys d k l) (h k d (omega (arith, l, length-append xs ys)))

  pub half_full_back : (xs ys : List X) → AreHalfFull f w (xs ++ ys) → AreHalfFull f w ys
  half_full_back xs ys h = λ k d l. let P : X → Type 0 = λ z. w ≤ length (f z) in subst P (get_or-append-add xs ys k d) (h (length xs + k) d (omega (arith, l, length-append xs ys)))

  pub half_full_last : (xs : List X) (y : X) → AreHalfFull f w (xs ++ y ∷ []) → w ≤ length (f y)
  half_full_last xs y h = half_full_back xs (y ∷ []) h 0 y (omega arith)

  -- parts of a balanced row
  pub balanced_front : (xs ys : List X) → IsBalanced f w (xs ++ ys) → IsBalanced f w xs
  balanced_front xs ys h = λ one. half_full_front xs ys (h (omega (arith, one, length-append xs ys)))

  pub balanced_back : (xs ys : List X) → IsBalanced f w (xs ++ ys) → IsBalanced f w ys
  balanced_back xs ys h = λ one. half_full_back xs ys (h (omega (arith, one, length-append xs ys)))

  pub balanced_push : (xs : List X) (y : X) → IsBalanced f w (xs ++ y ∷ []) → 0 < length xs → (AreHalfFull f w xs) × (w ≤ length (f y))
  balanced_push xs y h some = let all = h (omega (arith, some, length-append xs (y ∷ []))) in (half_full_front xs (y ∷ []) all, half_full_last xs y all)

  pub none_left : (xs : List X) → length xs ≤ 0 → xs ≡ []
  none_left [] h = refl
  none_left (x ∷ xs) h = absurd (omega arith)

-- a balanced row of branches within the greatest length has at most 64
pub few_branches : (xs : List (List ℕ)) → IsBalanced (λ n. n) 65536 xs → length (flat_map (λ n. n) xs) ≤ 4194304 → length xs ≤ 64
few_branches xs balanced most = elim (cases_lt 1 (length xs)) [
  | inl p ↦ let h = half_full_len (λ n. n) 65536 xs (balanced p) in omega (arith, h)
  | inr p ↦ omega arith
]
