-- A stable sort by the starts.
use Rattle.std.proofs.Common.{◌≡◌, ℕ, ◌<◌, not, ◌&&◌, nat_eq, List, [], ◌∷◌, ◌++◌, length, map, refl, ap, arith, inl, inr}
use Rattle.std.specs.List.{filter, flat_map}
use Rattle.std.specs.List.Sorted.{IsPermutation, IsNonDecreasingBy, IsStableByKey, IsSortedByKey, ties}
use Rattle.std.specs.Ordering.{nat_cmp, is_lt}
use Rattle.std.proofs.lemmas.List.Sorted.{IsPermutation-map, IsNonDecreasingBy-from_sort}
use Rattle.std.proofs.lemmas.List.{get_or-map, length-map}
use Rattle.std.proofs.lemmas.Bool.{cases_Bool}
use Rattle.std.proofs.lemmas.Bool.Decides.{nat_tests}
use denote.Ref.{Bor}
use Rattle.ed_base.specs.declared.edit.Replace.{Replace}
use Rattle.ed_base.specs.Edit.{inserted_at}
use Rattle.ed_change.specs.Sweep.{AreInOrder}

abbrev at_gap : ℕ → Replace
at_gap p = record { start = p; len = 0; text = [] }

abbrev lent : Replace → Bor Replace
lent r = record { ref_ptr = (0, 0); now = r }

ties_at : (p q : ℕ) → (not (is_lt (nat_cmp p q)) && not (is_lt (nat_cmp q p))) ≡ nat_eq q p
ties_at p q = grind (arith, nat_tests)

-- what is put in at a gap is what ties with a replace there
inserted_tied : (p : ℕ) (xs : List (Bor Replace)) → inserted_at (map (λ b. b.now) xs) p ≡ flat_map (λ b. b.now.text) (filter (ties (λ x y. is_lt (nat_cmp x.now.start y.now.start)) (lent (at_gap p))) xs)
inserted_tied p [] = refl
inserted_tied p (x ∷ xs) = elim (cases_Bool (nat_eq x.now.start p)) [
  | inl t ↦ rw (ties_at p x.now.start, t) (ap (λ us. x.now.text ++ us) (inserted_tied p xs))
  | inr f ↦ rw (ties_at p x.now.start, f) (inserted_tied p xs)
]

rising_map : (xs : List (Bor Replace)) → IsNonDecreasingBy (λ b. b.now.start) xs → IsNonDecreasingBy (λ r. r.start) (map (λ b. b.now) xs)
rising_map xs h i j d le lt =
    let len : length (map (λ b. b.now) xs) ≡ length xs = length-map xs _ in
    let j' : j < length xs = omega arith in
    let i' : i < length xs = omega arith in
    rw (get_or-map (λ (b : Bor Replace). b.now) xs i (lent d) d i', get_or-map (λ (b : Bor Replace). b.now) xs j (lent d) d j') (h i j (lent d) le j')

pub in_order : (xs ys : List (Bor Replace)) → IsPermutation xs ys → IsSortedByKey (λ b. b.now.start) nat_cmp ys → IsStableByKey (λ b. b.now.start) nat_cmp xs ys → AreInOrder (map (λ b. b.now) xs) (map (λ b. b.now) ys)
in_order xs ys same sorted stable = record {
  same = IsPermutation-map (λ b. b.now) xs ys same;
  rising = rising_map ys (IsNonDecreasingBy-from_sort (λ b. b.now.start) ys sorted);
  stable = λ p. rw (inserted_tied p ys, inserted_tied p xs, stable (lent (at_gap p))) refl;
}
