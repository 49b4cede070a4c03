-- Rising spans, joined: they lie apart and hold the same places.
use Rattle.std.proofs.Common.{◌≡◌, ℕ, suc, ◌+◌, ◌<◌, ◌≤◌, Bool, true, false, ◌||◌, List, [], ◌∷◌, ◌++◌, length, drop, max, filter, nat_lt, slice_index_or, All, inl, inr, refl, sym, ap, subst, ◌∙◌, arith, append_assoc}
use Rattle.std.specs.List.Sorted.{IsNonDecreasingBy}
use Rattle.std.proofs.lemmas.Bool.{cases_lt, le-leb, lt-leb, lt-ltb, le-ltb, ltb-true}
use Rattle.std.proofs.lemmas.List.{drop_more, drop_all}
use Rattle.std.proofs.lemmas.List.Elements.{All-filter, filter_passes}
use Rattle.std.proofs.lemmas.List.Sorted.{All-permutation, list_any-IsPermutation}
use Rattle.ed_base.specs.declared.edit.Span.{Span}
use Rattle.ed_base.specs.Runs.{runs}
use Rattle.ed_base.specs.Spans.{end_of, span_between, holds_place}
use Rattle.ed_spans.specs.SpanSets.{in_spans, EndsWithin, AreInOrder, AreRisingFrom, AreApartFrom, join_onto, joined}
use Rattle.ed_spans.proofs.PlaceLemmas.{holds_from, holds_none}
use Rattle.ed_spans.proofs.RunLemmas.{apart_runs, runs_same}

pub rising_earlier : (p q n : ℕ) (ss : List Span) → p ≤ q → AreRisingFrom q n ss → AreRisingFrom p n ss
rising_earlier p q n [] below rising = tt
rising_earlier p q n (s ∷ ss) below rising = (omega (arith, rising.0), rising.1, rising.2, rising.3)

pub join_apart : (p n : ℕ) (s : Span) (ss : List Span) → p ≤ s.start → 0 < s.len → end_of s ≤ n → AreRisingFrom s.start n ss → AreApartFrom p n (join_onto s ss)
join_apart p n s [] low some within rising = (low, some, within, tt)
join_apart p n s (t ∷ ts) low some within rising = elim (cases_lt (end_of s) t.start) [
  | inl apart ↦ rw (lt-leb t.start (end_of s) apart) (low, some, within, join_apart (end_of s + 1) n t ts (omega (arith, apart)) rising.1 rising.2 rising.3)
  | inr meet ↦ rw (le-leb t.start (end_of s) meet) (join_apart p n (span_between s.start (max (end_of s) (end_of t))) ts low (omega (arith, some)) (omega (arith, within, rising.2, some)) (rising_earlier s.start t.start n ts rising.0 rising.3))
]

both_hold : (s t : Span) (q : ℕ) → s.start ≤ t.start → t.start ≤ end_of s → holds_place (span_between s.start (max (end_of s) (end_of t))) q ≡ (holds_place s q || holds_place t q)
both_hold s t q order meet = elim (cases_lt q s.start) [
  | inl before ↦ rw (holds_none s q (λ a b. omega (arith, a, before)), holds_none t q (λ a b. omega (arith, a, before, order)), holds_none u q (λ a b. omega (arith, a, before))) refl
  | inr from ↦ elim (cases_lt q (end_of s)) [
    | inl in_s ↦ rw (holds_from s q from in_s, holds_from u q from (omega (arith, in_s, meet))) refl
    | inr behind ↦ elim (cases_lt q (end_of t)) [
      | inl in_t ↦ rw (holds_none s q (λ a b. omega (arith, b, behind)), holds_from t q (omega (arith, behind, meet)) in_t, holds_from u q from (omega (arith, in_t, order))) refl
      | inr past ↦ rw (holds_none s q (λ a b. omega (arith, b, behind)), holds_none t q (λ a b. omega (arith, b, past)), holds_none u q (λ a b. omega (arith, b, past, behind, from))) refl
    ]
  ]
]
  where
    u : Span
    u = span_between s.start (max (end_of s) (end_of t))

pub join_holds : (n q : ℕ) (s : Span) (ss : List Span) → AreRisingFrom s.start n ss → in_spans (join_onto s ss) q ≡ (holds_place s q || in_spans ss q)
join_holds n q s [] rising = refl
join_holds n q s (t ∷ ts) rising = elim (cases_lt (end_of s) t.start) [
  | inl apart ↦ rw (lt-leb t.start (end_of s) apart) (ap (λ b. holds_place s q || b) (join_holds n q t ts rising.3))
  | inr meet ↦ rw (le-leb t.start (end_of s) meet) (join_holds n q (span_between s.start (max (end_of s) (end_of t))) ts (rising_earlier s.start t.start n ts rising.0 rising.3)
      ∙ ap (λ b. b || in_spans ts q) (both_hold s t q rising.0 meet) ∙ or_assoc (holds_place s q) (holds_place t q) (in_spans ts q))
]
  where
    or_assoc : (x y z : Bool) → ((x || y) || z) ≡ (x || (y || z))
    or_assoc true y z = refl
    or_assoc false y z = refl

pub joined_apart : (n : ℕ) (ss : List Span) → AreRisingFrom 0 n ss → AreApartFrom 0 n (joined ss)
joined_apart n [] rising = tt
joined_apart n (s ∷ ss) rising = join_apart 0 n s ss (omega arith) rising.1 rising.2 rising.3

pub joined_holds : (n q : ℕ) (ss : List Span) → AreRisingFrom 0 n ss → in_spans (joined ss) q ≡ in_spans ss q
joined_holds n q [] rising = refl
joined_holds n q (s ∷ ss) rising = join_holds n q s ss rising.3

-- ---- one pass over rising spans: what is done, and an open span before the rest

pub rising_open : (at n : ℕ) (spans : List Span) (s d : Span) → at < length spans → AreRisingFrom s.start n (drop at spans) → (s.start ≤ (slice_index_or spans at d).start) × ((end_of (slice_index_or spans at d) ≤ n) × AreRisingFrom (slice_index_or spans at d).start n (drop (at + 1) spans))
rising_open at n spans s d below rising =
    let split : drop at spans ≡ slice_index_or spans at d ∷ drop (at + 1) spans = drop_more spans at d below in
    let all : AreRisingFrom s.start n (slice_index_or spans at d ∷ drop (at + 1) spans) = subst (AreRisingFrom s.start n) split rising in
    (all.0, (all.2, all.3))

pub join_meets : (at : ℕ) (spans done whole : List Span) (s d : Span) → at < length spans → (slice_index_or spans at d).start ≤ end_of s → done ++ join_onto s (drop at spans) ≡ whole → done ++ join_onto (span_between s.start (max (end_of s) (end_of (slice_index_or spans at d)))) (drop (at + 1) spans) ≡ whole
join_meets at spans done whole s d below meet is =
    let split : drop at spans ≡ slice_index_or spans at d ∷ drop (at + 1) spans = drop_more spans at d below in
    let joins : join_onto s (slice_index_or spans at d ∷ drop (at + 1) spans) ≡ join_onto (span_between s.start (max (end_of s) (end_of (slice_index_or spans at d)))) (drop (at + 1) spans) = rw (le-leb (slice_index_or spans at d).start (end_of s) meet) refl in
    ap (λ u. done ++ u) (sym joins) ∙ ap (λ u. done ++ join_onto s u) (sym split) ∙ is

pub join_parts : (at : ℕ) (spans done whole : List Span) (s d : Span) → at < length spans → end_of s < (slice_index_or spans at d).start → done ++ join_onto s (drop at spans) ≡ whole → (done ++ (s ∷ [])) ++ join_onto (slice_index_or spans at d) (drop (at + 1) spans) ≡ whole
join_parts at spans done whole s d below apart is =
    let split : drop at spans ≡ slice_index_or spans at d ∷ drop (at + 1) spans = drop_more spans at d below in
    let joins : join_onto s (slice_index_or spans at d ∷ drop (at + 1) spans) ≡ s ∷ join_onto (slice_index_or spans at d) (drop (at + 1) spans) = rw (lt-leb (slice_index_or spans at d).start (end_of s) apart) refl in
    append_assoc done (s ∷ []) (join_onto (slice_index_or spans at d) (drop (at + 1) spans)) ∙ ap (λ u. done ++ u) (sym joins) ∙ ap (λ u. done ++ join_onto s u) (sym split) ∙ is

pub join_last : (at : ℕ) (spans done whole : List Span) (s : Span) → length spans ≤ at → done ++ join_onto s (drop at spans) ≡ whole → done ++ (s ∷ []) ≡ whole
join_last at spans done whole s end is = ap (λ u. done ++ join_onto s u) (sym (drop_all at spans end)) ∙ is

-- ---- all that is told of joined spans, and of spans in any order

pub rising_within : (p m n : ℕ) (ss : List Span) → AreRisingFrom p m ss → All (EndsWithin n) ss → AreRisingFrom p n ss
rising_within p m n [] rising within = tt
rising_within p m n (s ∷ ss) rising within = (rising.0, rising.1, within 0 s (omega arith), rising_within s.start m n ss rising.3 (λ k d below. within (suc k) d (omega arith)))

pub joined_runs : (n : ℕ) (ss : List Span) → AreRisingFrom 0 n ss → joined ss ≡ runs (in_spans ss) n
joined_runs n ss rising = sym (apart_runs (in_spans ss) n (joined ss) (joined_apart n ss rising) (λ q below. sym (joined_holds n q ss rising)))

rising_later : (p n : ℕ) (ss : List Span) → AreRisingFrom 0 n ss → ((d : Span) → 0 < length ss → p ≤ (slice_index_or ss 0 d).start) → AreRisingFrom p n ss
rising_later p n [] rising first = tt
rising_later p n (s ∷ ss) rising first = (first s (omega arith), rising.1, rising.2, rising.3)

pub rising_sorted : (n : ℕ) (ss : List Span) → IsNonDecreasingBy (λ s. s.start) ss → All (λ s. nat_lt 0 s.len ≡ true) ss → All (EndsWithin n) ss → AreRisingFrom 0 n ss
rising_sorted n [] order some within = tt
rising_sorted n (s ∷ ss) order some within =
    let later : AreRisingFrom 0 n ss = rising_sorted n ss (λ i j d le lt. order (suc i) (suc j) d (omega arith) (omega arith)) (λ k d lt. some (suc k) d (omega arith)) (λ k d lt. within (suc k) d (omega arith)) in
    (omega arith, ltb-true 0 s.len (some 0 s (omega arith)), within 0 s (omega arith), rising_later s.start n ss later (λ d lt. order 0 1 d (omega arith) (omega arith)))

-- empty spans hold nothing
nonempty_hold : (q : ℕ) (ss : List Span) → in_spans (filter (λ s. nat_lt 0 s.len) ss) q ≡ in_spans ss q
nonempty_hold q [] = refl
nonempty_hold q (s ∷ ss) = elim (cases_lt 0 s.len) [
  | inl some ↦ rw (lt-ltb 0 s.len some) (ap (λ b. holds_place s q || b) (nonempty_hold q ss))
  | inr none ↦ rw (le-ltb 0 s.len none, holds_none s q (λ a b. omega (arith, a, b, none))) (nonempty_hold q ss)
]

-- what remains of spans in any order, sorted by start
module _ (spans sorted : List Span) (order : AreInOrder spans sorted) where
  pub order_within : (n : ℕ) → All (EndsWithin n) spans → All (EndsWithin n) sorted
  order_within n within = All-permutation (EndsWithin n) (filter (λ s. nat_lt 0 s.len) spans) sorted order.same (All-filter (λ (s : Span). nat_lt 0 s.len) (EndsWithin n) spans within)

  pub order_rising : (n : ℕ) → All (EndsWithin n) spans → AreRisingFrom 0 n sorted
  order_rising n within = rising_sorted n sorted order.rising (All-permutation (λ (s : Span). nat_lt 0 s.len ≡ true) (filter (λ s. nat_lt 0 s.len) spans) sorted order.same (filter_passes (λ (s : Span). nat_lt 0 s.len) spans)) (order_within n within)

  pub order_holds : (q : ℕ) → in_spans sorted q ≡ in_spans spans q
  order_holds q = sym (list_any-IsPermutation (λ s. holds_place s q) (filter (λ s. nat_lt 0 s.len) spans) sorted order.same) ∙ nonempty_hold q spans

  pub order_runs : (n : ℕ) → All (EndsWithin n) spans → joined sorted ≡ runs (in_spans spans) n
  order_runs n within = joined_runs n sorted (order_rising n within) ∙ runs_same (in_spans sorted) (in_spans spans) n (λ q below. order_holds q)
