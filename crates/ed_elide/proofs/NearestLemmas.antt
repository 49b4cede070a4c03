-- The nearest place by the runs: what stands before, less what is hidden of it.
use Rattle.std.proofs.Common.{◌≡◌, ℕ, zero, suc, ◌+◌, ◌-◌, ◌<◌, ◌≤◌, Bool, true, false, not, List, [], ◌∷◌, length, slice_index_or, map, take, inl, inr, refl, ap, ◌∙◌, arith}
use Rattle.std.proofs.lemmas.List.Sums.{sum_by-cons}
use Rattle.std.specs.Prelude.{cond, count_by}
use Rattle.std.specs.List.{range_with_len}
use Rattle.std.proofs.lemmas.Bool.{cases_lt}
use Rattle.ed_base.specs.declared.edit.Span.{Span}
use Rattle.ed_base.specs.Spans.{end_of}
use Rattle.ed_layers.specs.Hidden.{in_some, hidden_by, nearest}
use Rattle.ed_spans.specs.SpanSets.{in_spans, AreApartFrom}
use Rattle.ed_spans.proofs.PlaceLemmas.{holds_from, holds_none}
use Rattle.std.specs.List.Sorted.{IsNonDecreasingBy}
use Rattle.ed_spans.proofs.RunLemmas.{apart_before}
use Rattle.ed_spans.proofs.EndLemmas.{apart_at}
use Rattle.ed_spans.proofs.GapLemmas.{apart_earlier}
use Rattle.ed_elide.specs.Kept.{shown_before}
use Rattle.ed_spans.specs.SpanSets.{held_below}

abbrev pub one_if : Bool → ℕ
one_if true = 1
one_if false = 0

count_next : (f : ℕ → Bool) (a n p : ℕ) → p < n → count_by not (take (suc p) (map f (range_with_len a n))) ≡ count_by not (take p (map f (range_with_len a n))) + one_if (not (f (a + p)))
count_next f a zero p below = absurd (omega arith)
count_next f a (suc n) zero below = let e : a + 0 ≡ a = omega arith in rw e (one (f a))
  where
    one : (b : Bool) → count_by not (b ∷ []) ≡ 0 + one_if (not b)
    one true = refl
    one false = omega arith
count_next f a (suc n) (suc p) below =
    let e : a + suc p ≡ a + 1 + p = omega arith in
    rw e (front (f a) (take (suc p) (map f (range_with_len (a + 1) n))) (take p (map f (range_with_len (a + 1) n))) (one_if (not (f (a + 1 + p)))) (count_next f (a + 1) n p (omega arith)))
  where
    front : (b : Bool) (xs ys : List Bool) (k : ℕ) → count_by not xs ≡ count_by not ys + k → count_by not (b ∷ xs) ≡ count_by not (b ∷ ys) + k
    front true xs ys k same = (let a : count_by not (true ∷ xs) ≡ 0 + count_by not xs = sum_by-cons (λ (x : Bool). cond (not x) 1 0) true xs in let b : count_by not (true ∷ ys) ≡ 0 + count_by not ys = sum_by-cons (λ (x : Bool). cond (not x) 1 0) true ys in omega (arith, same, a, b))
    front false xs ys k same = (let a : count_by not (false ∷ xs) ≡ 1 + count_by not xs = sum_by-cons (λ (x : Bool). cond (not x) 1 0) false xs in let b : count_by not (false ∷ ys) ≡ 1 + count_by not ys = sum_by-cons (λ (x : Bool). cond (not x) 1 0) false ys in omega (arith, same, a, b))

pub held_next : (a n p : ℕ) (ss : List Span) → AreApartFrom a n ss → held_below (suc p) ss ≡ held_below p ss + one_if (in_spans ss p)
held_next a n p [] apart = refl
held_next a n p (s ∷ ss) apart =
    let later : held_below (suc p) ss ≡ held_below p ss + one_if (in_spans ss p) = held_next (end_of s + 1) n p ss apart.3 in
    elim (cases_lt p s.start) [
      | inl front ↦ rw (holds_none s p (λ x y. omega (arith, x, front))) (omega (arith, front, later))
      | inr from ↦ elim (cases_lt p (end_of s)) [
        | inl inside ↦ rw (holds_from s p from inside) (let none : in_spans ss p ≡ false = apart_before (end_of s + 1) n p ss apart.3 (omega (arith, inside)) in
            let same : held_below (suc p) ss ≡ held_below p ss + 0 = later ∙ ap (λ b. held_below p ss + one_if b) none in omega (arith, from, inside, same))
        | inr behind ↦ rw (holds_none s p (λ x y. omega (arith, y, behind))) (omega (arith, behind, from, later))
      ]
    ]

pub held_zero : (ss : List Span) → held_below 0 ss ≡ 0
held_zero [] = refl
held_zero (s ∷ ss) = omega (arith, held_zero ss)

-- The shown and the hidden units before a place are all of them.
pub nearest_is : (n p : ℕ) (ss : List Span) → AreApartFrom 0 n ss → p ≤ n → nearest (hidden_by n ss) p + held_below p ss ≡ p
nearest_is n zero ss apart within = let z : nearest (hidden_by n ss) 0 ≡ 0 = refl in omega (arith, z, held_zero ss)
nearest_is n (suc p) ss apart within =
    let e : 0 + p ≡ p = omega arith in
    let next : nearest (hidden_by n ss) (suc p) ≡ nearest (hidden_by n ss) p + one_if (not (in_spans ss p)) = count_next (in_some ss) 0 n p (omega (arith, within)) ∙ ap (λ k. nearest (hidden_by n ss) p + one_if (not (in_some ss k))) e in
    add (in_spans ss p) (nearest (hidden_by n ss) (suc p)) (nearest (hidden_by n ss) p) (held_below (suc p) ss) (held_below p ss) next (held_next 0 n p ss apart) (nearest_is n p ss apart (omega (arith, within)))
  where
    add : (b : Bool) (x x' y y' : ℕ) → x ≡ x' + one_if (not b) → y ≡ y' + one_if b → x' + y' ≡ p → x + y ≡ suc p
    add true x x' y y' s t u = omega (arith, s, t, u)
    add false x x' y y' s t u = omega (arith, s, t, u)

-- one place further
pub nearest_next : (n p : ℕ) (ss : List Span) → p < n → nearest (hidden_by n ss) (p + 1) ≡ nearest (hidden_by n ss) p + one_if (not (in_spans ss p))
nearest_next n p ss below =
    let one : p + 1 ≡ suc p = omega arith in let e : 0 + p ≡ p = omega arith in
    ap (nearest (hidden_by n ss)) one ∙ count_next (in_some ss) 0 n p below ∙ ap (λ k. nearest (hidden_by n ss) p + one_if (not (in_some ss k))) e

-- ---- by the kept places

pub apart_rises : (p n : ℕ) (ss : List Span) → AreApartFrom p n ss → IsNonDecreasingBy (λ s. s.start) ss
apart_rises p n [] apart i j d le lt = absurd (omega arith)
apart_rises p n (s ∷ ss) apart zero zero d le lt = omega arith
apart_rises p n (s ∷ ss) apart zero (suc j) d le lt = omega (arith, (apart_at (end_of s + 1) n j ss d apart.3 (omega arith)).0)
apart_rises p n (s ∷ ss) apart (suc i) zero d le lt = absurd (omega arith)
apart_rises p n (s ∷ ss) apart (suc i) (suc j) d le lt = apart_rises (end_of s + 1) n ss apart.3 i j d (omega arith) (omega arith)

-- where no span begins before q
pub held_none_begun : (p n q : ℕ) (ss : List Span) (d : Span) → AreApartFrom p n ss → (0 < length ss → q ≤ (slice_index_or ss 0 d).start) → held_below q ss ≡ 0
held_none_begun p n q [] d apart first = refl
held_none_begun p n q (s ∷ ss) d apart first =
    let none : q ≤ s.start = first (omega arith) in
    omega (arith, none, held_none_begun (end_of s + 1) n q ss d apart.3 (λ some. omega (arith, none, (apart_at (end_of s + 1) n 0 ss d apart.3 some).0)))

-- where the span with index k is the last that begins before q
pub held_last : (p j n q k : ℕ) (ss : List Span) (d : Span) → p ≤ n → AreApartFrom p n ss → k < length ss → (slice_index_or ss k d).start < q → (k + 1 < length ss → q ≤ (slice_index_or ss (k + 1) d).start)
    → slice_index_or (shown_before p j ss) k 0 + (q - end_of (slice_index_or ss k d)) + held_below q ss + p ≡ q + j
held_last p j n q k [] d within apart below begun next = absurd (omega arith)
held_last p j n q zero (s ∷ ss) d within apart below begun next =
    let rest : held_below q ss ≡ 0 = held_none_begun (end_of s + 1) n q ss d apart.3 (λ some. next (omega (arith, some))) in
    omega (arith, rest, apart.0, begun)
held_last p j n q (suc k) (s ∷ ss) d within apart below begun next =
    let one : suc k + 1 ≡ suc (k + 1) = omega arith in
    let rest : slice_index_or (shown_before (end_of s) (j + (s.start - p)) ss) k 0 + (q - end_of (slice_index_or ss k d)) + held_below q ss + end_of s ≡ q + (j + (s.start - p)) =
    held_last (end_of s) (j + (s.start - p)) n q k ss d apart.2 (apart_earlier (end_of s) (end_of s + 1) n ss (omega arith) apart.3) (omega arith) begun (λ more. omega (arith, next (omega (arith, more)), ap (λ i. (slice_index_or (s ∷ ss) i d).start) one)) in
    let after : end_of s + 1 ≤ (slice_index_or ss k d).start = (apart_at (end_of s + 1) n k ss d apart.3 (omega arith)).0 in
    omega (arith, rest, after, begun, apart.0)

pub length_before : (p j : ℕ) (ss : List Span) → length (shown_before p j ss) ≡ length ss
length_before p j [] = refl
length_before p j (s ∷ ss) = rw (length_before (end_of s) (j + (s.start - p)) ss) refl

pub nearest_last : (n q k : ℕ) (ss : List Span) (places : List ℕ) (d : Span) → AreApartFrom 0 n ss → q ≤ n → places ≡ shown_before 0 0 ss → k < length ss → (slice_index_or ss k d).start < q → (k + 1 < length ss → q ≤ (slice_index_or ss (k + 1) d).start)
    → slice_index_or places k 0 + (q - end_of (slice_index_or ss k d)) ≡ nearest (hidden_by n ss) q
nearest_last n q k ss places d apart within kept below begun next =
    omega (arith, held_last 0 0 n q k ss d (omega arith) apart below begun next, nearest_is n q ss apart within, ap (λ ps. slice_index_or ps k 0) kept)
