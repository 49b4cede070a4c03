-- Every buffer stands in the order of the graph.
use Rattle.std.proofs.Common.{◌≡◌, ℕ, zero, suc, ◌+◌, ◌<◌, ◌≤◌, Bool, true, List, [], ◌∷◌, ◌++◌, filter, flat_map, nat_eq, refl, sym, ◌∙◌, ap, arith, inl, inr, eq-eqb, eqb-true}
use Rattle.std.proofs.lemmas.Bool.{cases_Bool, cases_eq}
use Rattle.std.specs.List.{range_with_len}
use Rattle.ed_base.specs.Numbers.{is_among, places}
use Rattle.ed_layers.specs.Graph.{graph_order, height, height_within}
use Rattle.ed_graph.proofs.Fuel.{within_rounds}
use Rattle.ed_graph.proofs.Lists.{or_left, or_right, or_cases}

among-left : (n : ℕ) (xs ys : List ℕ) → is_among n xs ≡ true → is_among n (xs ++ ys) ≡ true
among-left n [] ys e = absurd (cc)
among-left n (x ∷ xs) ys e = elim (or_cases (nat_eq n x) (is_among n xs) e) [
  | inl here ↦ or_left (nat_eq n x) (is_among n (xs ++ ys)) here
  | inr further ↦ or_right (nat_eq n x) (is_among n (xs ++ ys)) (among-left n xs ys further)
]

among-right : (n : ℕ) (xs ys : List ℕ) → is_among n ys ≡ true → is_among n (xs ++ ys) ≡ true
among-right n [] ys e = e
among-right n (x ∷ xs) ys e = or_right (nat_eq n x) (is_among n (xs ++ ys)) (among-right n xs ys e)

among-filter : (p : ℕ → Bool) (n : ℕ) → p n ≡ true → (xs : List ℕ) → is_among n xs ≡ true → is_among n (filter p xs) ≡ true
among-filter p n passes [] e = e
among-filter p n passes (x ∷ xs) e = elim (or_cases (nat_eq n x) (is_among n xs) e) [
  | inl here ↦ (let same : n ≡ x = eqb-true n x here in rw (← same, passes, eq-eqb n n refl) refl)
  | inr further ↦ elim (cases_Bool (p x)) [
    | inl t ↦ rw t (or_right (nat_eq n x) (is_among n (filter p xs)) (among-filter p n passes xs further))
    | inr f ↦ rw f (among-filter p n passes xs further)
  ]
]

among-flat_map : (f : ℕ → List ℕ) (n m : ℕ) → is_among n (f m) ≡ true → (xs : List ℕ) → is_among m xs ≡ true → is_among n (flat_map f xs) ≡ true
among-flat_map f n m found [] e = absurd (cc)
among-flat_map f n m found (x ∷ xs) e = elim (or_cases (nat_eq m x) (is_among m xs) e) [
  | inl here ↦ among-left n (f x) (flat_map f xs) (ap (λ k. is_among n (f k)) (sym (eqb-true m x here)) ∙ found)
  | inr further ↦ among-right n (f x) (flat_map f xs) (among-flat_map f n m found xs further)
]

among-range : (k a n : ℕ) → a ≤ n → n < a + k → is_among n (range_with_len a k) ≡ true
among-range zero a n low high = absurd (omega arith)
among-range (suc k) a n low high = elim (cases_eq n a) [
  | inl same ↦ or_left (nat_eq n a) (is_among n (range_with_len (a + 1) k)) (eq-eqb n a same)
  | inr other ↦ or_right (nat_eq n a) (is_among n (range_with_len (a + 1) k)) (among-range k (a + 1) n (omega arith) (omega arith))
]

pub among-order : (sources : ℕ → List ℕ) (count b : ℕ) → b < count → is_among b (graph_order sources count) ≡ true
unfolding graph_order
among-order sources count b there =
    let low : height_within sources count count b ≤ count = within_rounds sources count count b in
    among-flat_map _ b (height sources count b) (among-filter _ b (eq-eqb _ _ refl) (places count) (among-range count 0 b (omega arith) (omega arith))) (places (count + 1)) (among-range (count + 1) 0 _ (omega arith) (omega arith))
