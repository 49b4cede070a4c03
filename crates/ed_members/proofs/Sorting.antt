-- Indices that are sorted by the keys of their members.
use Rattle.std.proofs.Common.{◌≡◌, ◌≢◌, ℕ, zero, suc, ◌+◌, ◌<◌, true, false, inl, inr, List, [], ◌∷◌, length, get_or, subst, is_lt, Ordering, Less, Equal, Greater, Option, Some, None, refl, sym, ◌∙◌, arith}
use Rattle.std.specs.Prelude.{nat_eq, slice_get, slice_index, IsPermutation}
use Rattle.std.specs.Cmp.{IsTotalOrder}
use Rattle.std.specs.List.{AllByRecursion, IsDistinct, range_with_len}
use Rattle.std.specs.List.Sorted.{IsSortedByKey}
use Rattle.std.specs.Ordering.{nat_cmp, ordering_then}
use Rattle.std.proofs.lemmas.Bool.{cases_lt, cases_eq, ne_eqb, eq-eqb, lt-ltb}
use Rattle.std.proofs.lemmas.Bool.Decides.{nat_tests}
use Rattle.std.proofs.lemmas.Cmp.{on_total, then_total, nat_cmp_total}
use Rattle.std.proofs.lemmas.List.{get_or_default}
use Rattle.std.proofs.lemmas.List.Sorted.{ranks_by, sorted_far}
use Rattle.std.proofs.lemmas.Map.Keys.{IsDistinct-IsPermutation}
use Rattle.ed_base.specs.declared.piece.Member.{Member}
use Rattle.ed_base.specs.Numbers.{places}
use Rattle.ed_members.specs.Sorted.{Key, key_of, Precedes, AreSorted}

abbrev pub key_cmp : Key → Key → Ordering
key_cmp a b = ordering_then (ordering_then (ordering_then (nat_cmp a.0 b.0) (nat_cmp a.1 b.1)) (nat_cmp a.2 b.2)) (nat_cmp a.3 b.3)

key_total : IsTotalOrder key_cmp
key_total = then_total (then_total (then_total (on_total (λ (k : Key). k.0) nat_cmp_total) (on_total (λ (k : Key). k.1) nat_cmp_total)) (on_total (λ (k : Key). k.2) nat_cmp_total)) (on_total (λ (k : Key). k.3) nat_cmp_total)

data Compared (x y : ℕ) : Type 0 where
  is_below : x < y → nat_cmp y x ≡ Greater → Compared x y
  is_same : x ≡ y → nat_cmp y x ≡ Equal → Compared x y
  is_above : nat_cmp y x ≡ Less → Compared x y

compared : (x y : ℕ) → Compared x y
compared x y = elim (cases_lt y x) [
  | inl l ↦ is_above (rw (lt-ltb y x l) refl)
  | inr g ↦ elim (cases_eq x y) [
    | inl e ↦ is_same e (grind (arith, nat_tests))
    | inr ne ↦ is_below (omega arith) (grind (arith, nat_tests))
  ]
]

precedes : (a b : Key) → is_lt (key_cmp b a) ≡ false → a.3 ≢ b.3 → Precedes a b
precedes a b no_less ne = elim (compared a.0 b.0) [
  | is_below l e ↦ inl l
  | is_above e ↦ absurd (let t : is_lt (ordering_then (ordering_then (ordering_then Less (nat_cmp b.1 a.1)) (nat_cmp b.2 a.2)) (nat_cmp b.3 a.3)) ≡ false = rw e at no_less in cc)
  | is_same s e ↦ inr (
    s,
    (let t : is_lt (ordering_then (ordering_then (nat_cmp b.1 a.1) (nat_cmp b.2 a.2)) (nat_cmp b.3 a.3)) ≡ false = rw e at no_less in elim (compared a.1 b.1) [
      | is_below l e' ↦ inl l
      | is_above e' ↦ absurd (let u : is_lt (ordering_then (ordering_then Less (nat_cmp b.2 a.2)) (nat_cmp b.3 a.3)) ≡ false = rw e' at t in cc)
      | is_same s' e' ↦ inr (
        s',
        (let u : is_lt (ordering_then (nat_cmp b.2 a.2) (nat_cmp b.3 a.3)) ≡ false = rw e' at t in elim (compared a.2 b.2) [
          | is_below l e'' ↦ inl l
          | is_above e'' ↦ absurd (let v : is_lt (ordering_then Less (nat_cmp b.3 a.3)) ≡ false = rw e'' at u in cc)
          | is_same s'' e'' ↦ inr (
            s'',
            (let v : is_lt (nat_cmp b.3 a.3) ≡ false = rw e'' at u in elim (compared a.3 b.3) [
              | is_below l f ↦ l
              | is_above f ↦ absurd (let w : is_lt Less ≡ false = rw f at v in cc)
              | is_same s3 f ↦ absurd (ne s3)
            ]),
          )
        ]),
      )
    ]),
  )
]

-- ---- no index stands twice

range_above : (a b n : ℕ) → a < b → AllByRecursion (λ y. nat_eq a y ≡ false) (range_with_len b n)
range_above a b zero l = tt
range_above a b (suc n) l = (ne_eqb a b (λ e. omega arith), range_above a (b + 1) n (omega arith))

range_distinct : (a n : ℕ) → IsDistinct nat_eq (range_with_len a n)
unfolding IsDistinct
range_distinct a zero = tt
range_distinct a (suc n) = (range_above a (a + 1) n (omega arith), range_distinct (a + 1) n)

apart_from : (x : ℕ) (xs : List ℕ) (q : ℕ) → AllByRecursion (λ y. nat_eq x y ≡ false) xs → q < length xs → x ≢ slice_index xs q
apart_from x [] q all below = absurd (omega arith)
apart_from x (y ∷ xs) zero all below = λ e. absurd (let t : nat_eq x y ≡ true = eq-eqb x y e in let f : nat_eq x y ≡ false = all.0 in cc)
apart_from x (y ∷ xs) (suc q) all below = apart_from x xs q all.1 (omega arith)

distinct_at : (xs : List ℕ) (p q : ℕ) → IsDistinct nat_eq xs → p < q → q < length xs → slice_index xs p ≢ slice_index xs q
unfolding IsDistinct
distinct_at [] p q distinct l below = absurd (omega arith)
distinct_at (x ∷ xs) zero zero distinct l below = absurd (omega arith)
distinct_at (x ∷ xs) zero (suc q) distinct l below = apart_from x xs q distinct.0 (omega arith)
distinct_at (x ∷ xs) (suc p) zero distinct l below = absurd (omega arith)
distinct_at (x ∷ xs) (suc p) (suc q) distinct l below = distinct_at xs p q distinct.1 (omega arith) (omega arith)

eq_flips : (x y : ℕ) → nat_eq x y ≡ nat_eq y x
eq_flips x y = grind (arith, nat_tests)

key_last : (ms : List Member) (i : ℕ) → (key_of (slice_get ms i) i).3 ≡ i
key_last ms i = last_is (slice_get ms i)
  where
    last_is : (o : Option Member) → (key_of o i).3 ≡ i
    last_is None = refl
    last_is (Some (Member.Literal u)) = refl
    last_is (Some (Member.Tracked s b m)) = refl

pub sorted_keys : (ms : List Member) (order : List ℕ) → IsPermutation (places (length ms)) order → IsSortedByKey (λ i. key_of (slice_get ms i) i) key_cmp order → AreSorted ms order
sorted_keys ms order permuted up = record {
  each = λ p q l below.
      let key : ℕ → Key = λ i. key_of (slice_get ms i) i in
      let distinct : IsDistinct nat_eq order = IsDistinct-IsPermutation nat_eq eq_flips (places (length ms)) order permuted (range_distinct 0 (length ms)) in
      let far : is_lt (key_cmp (key_of (slice_get ms (slice_index order q)) (slice_index order q)) (key_of (slice_get ms (slice_index order p)) (slice_index order p))) ≡ false =
      sorted_far (λ x y. is_lt (key_cmp (key_of (slice_get ms x) x) (key_of (slice_get ms y) y))) (ranks_by key_total (λ i. key_of (slice_get ms i) i)) order up p q 0 (omega arith) below in
      precedes (key_of (slice_get ms (slice_index order p)) (slice_index order p)) (key_of (slice_get ms (slice_index order q)) (slice_index order q)) far
      (λ e. distinct_at order p q distinct l below (sym (key_last ms (slice_index order p)) ∙ (e ∙ key_last ms (slice_index order q))));
}

-- ---- whether they are

abbrev pub Rises : List Member → List ℕ → ℕ → Type 0
Rises ms order k = (d : ℕ) → is_lt (key_cmp (key_of (slice_get ms (get_or order (k + 1) d)) (get_or order (k + 1) d)) (key_of (slice_get ms (get_or order k d)) (get_or order k d))) ≡ false

pub rises_here : (ms : List Member) (order : List ℕ) (k : ℕ) (a b : Key) → k + 1 < length order → a ≡ key_of (slice_get ms (slice_index order (k + 1))) (slice_index order (k + 1)) → b ≡ key_of (slice_get ms (slice_index order k)) (slice_index order k)
    → is_lt (key_cmp a b) ≡ false → Rises ms order k
rises_here ms order k a b below is is' no_less = λ d.
    let first : slice_index order (k + 1) ≡ get_or order (k + 1) d = get_or_default order (k + 1) 0 d below in
    let second : slice_index order k ≡ get_or order k d = get_or_default order k 0 d (omega arith) in
    subst (λ (i : ℕ). is_lt (key_cmp (key_of (slice_get ms i) i) (key_of (slice_get ms (get_or order k d)) (get_or order k d))) ≡ false) first
    (subst (λ (i : ℕ). is_lt (key_cmp (key_of (slice_get ms (slice_index order (k + 1))) (slice_index order (k + 1))) (key_of (slice_get ms i) i)) ≡ false) second
    (subst (λ (x : Key). is_lt (key_cmp (key_of (slice_get ms (slice_index order (k + 1))) (slice_index order (k + 1))) x) ≡ false) is'
    (subst (λ (x : Key). is_lt (key_cmp x b) ≡ false) is no_less)))
