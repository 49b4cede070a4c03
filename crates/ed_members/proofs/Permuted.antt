-- The numbers below n in another order.
use Rattle.std.proofs.Common.{◌≡◌, ℕ, ◌+◌, ◌<◌, ◌++◌, ◌∷◌, [], true, List, length, get_or, sym, ap, ◌∙◌, arith}
use Rattle.std.specs.Prelude.{nat_eq, slice_index, IsPermutation}
use Rattle.std.specs.List.{list_any, All, Any}
use Rattle.std.proofs.lemmas.Bool.{eqb-true, eq-eqb}
use Rattle.std.proofs.lemmas.List.{get_or_read, map-id}
use Rattle.std.proofs.lemmas.List.Folds.{Any-from_list_any, list_any_at}
use Rattle.std.proofs.lemmas.List.FromFn.{get_or-range_with_len, length-range_with_len, map-range_with_len_more}
use Rattle.std.proofs.lemmas.List.Sorted.{length_permutation, All-permutation, list_any-IsPermutation}
use Rattle.ed_base.specs.Numbers.{places}

pub order_length : (n : ℕ) (order : List ℕ) → IsPermutation (places n) order → length order ≡ n
order_length n order permuted = length_permutation (places n) order permuted ∙ length-range_with_len 0 n

pub order_below : (n : ℕ) (order : List ℕ) (p : ℕ) → IsPermutation (places n) order → p < length order → slice_index order p < n
order_below n order p permuted below =
    at_place order (All-permutation (λ i. i < n) (places n) order permuted all_below) p below
  where
    all_below : All (λ i. i < n) (places n)
    all_below = λ k d l. let l' : k < n = omega (arith, length-range_with_len 0 n) in omega (arith, get_or-range_with_len 0 n k d l')

    at_place : (xs : List ℕ) → All (λ i. i < n) xs → (p : ℕ) → p < length xs → slice_index xs p < n
    at_place xs all p below = all p 0 below

pub place_of : (n : ℕ) (order : List ℕ) → IsPermutation (places n) order → (i : ℕ) → i < n → (p : ℕ) × (p < length order) × (slice_index order p ≡ i)
place_of n order permuted i h =
    let listed : list_any (nat_eq i) (places (n)) ≡ true =
    list_any_at (nat_eq i) (places (n)) i 0 (let l : length (places (n)) ≡ n = length-range_with_len 0 (n) in omega arith)
    (eq-eqb i (get_or (places (n)) i 0) (sym (get_or-range_with_len 0 (n) i 0 h ∙ (let z : 0 + i ≡ i = omega arith in z)))) in
    let some : Any (λ x. nat_eq i x ≡ true) order = Any-from_list_any (nat_eq i) order (sym (list_any-IsPermutation (nat_eq i) (places (n)) order permuted) ∙ listed) in
    (some.0, some.2, sym (get_or_read order some.0 some.1 some.2 (sym some.3) 0) ∙ sym (eqb-true i some.1 some.4))

pub places_more : (n : ℕ) → places (n + 1) ≡ places n ++ n ∷ []
places_more n = sym (map-id (places (n + 1))) ∙ (map-range_with_len_more (λ p. p) 0 n n (omega arith) ∙ ap (λ ps. ps ++ n ∷ []) (map-id (places n)))
