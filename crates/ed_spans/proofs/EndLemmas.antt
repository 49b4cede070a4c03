-- One span more at the end of spans that lie apart.
use Rattle.std.proofs.Common.{◌≡◌, ◌≢◌, ℕ, zero, suc, ◌+◌, ◌<◌, ◌≤◌, Bool, true, false, ◌||◌, List, [], ◌∷◌, ◌++◌, length, set, slice_index_or, All, inl, inr, refl, ap, ◌∙◌, arith}
use Rattle.std.proofs.lemmas.Bool.{cases_lt}
use Rattle.ed_base.specs.declared.edit.Span.{Span}
use Rattle.ed_base.specs.Spans.{end_of, holds_place}
use Rattle.ed_spans.specs.SpanSets.{in_spans, AreApartFrom, EndsWithin}
use Rattle.ed_spans.proofs.PlaceLemmas.{holds_from, holds_none, spans_append}

pub apart_later : (p m n : ℕ) (ss : List Span) → m ≤ n → AreApartFrom p m ss → AreApartFrom p n ss
apart_later p m n [] le apart = tt
apart_later p m n (s ∷ ss) le apart = (apart.0, apart.1, omega (arith, apart.2), apart_later (end_of s + 1) m n ss le apart.3)

pub apart_at : (p n k : ℕ) (ss : List Span) (d : Span) → AreApartFrom p n ss → k < length ss → (p ≤ (slice_index_or ss k d).start) × (end_of (slice_index_or ss k d) ≤ n)
apart_at p n k [] d apart below = absurd (omega arith)
apart_at p n zero (s ∷ ss) d apart below = (apart.0, apart.2)
apart_at p n (suc k) (s ∷ ss) d apart below = let rest = apart_at (end_of s + 1) n k ss d apart.3 (omega arith) in (omega (arith, apart.0, rest.0), rest.1)

pub apart_within : (p n m : ℕ) (ss : List Span) → n ≤ m → AreApartFrom p n ss → All (EndsWithin m) ss
apart_within p n m ss le apart k d below = omega (arith, le, (apart_at p n k ss d apart below).1)

-- where none ends at the start of the new one
pub push_apart : (p n : ℕ) (ss : List Span) (s d : Span) → AreApartFrom p n ss → n ≤ s.start → p ≤ s.start → 0 < s.len → ((k : ℕ) → length ss ≡ k + 1 → end_of (slice_index_or ss k d) ≢ s.start) → AreApartFrom p (end_of s) (ss ++ (s ∷ []))
push_apart p n [] s d apart behind from some last = (from, some, omega arith, tt)
push_apart p n (t ∷ []) s d apart behind from some last = let no : end_of t ≢ s.start = last 0 (omega arith) in (apart.0, apart.1, omega (arith, apart.2, behind), (omega (arith, apart.2, behind, no), some, omega arith, tt))
push_apart p n (t ∷ u ∷ ts) s d apart behind from some last =
    (apart.0, apart.1, omega (arith, apart.2, behind), push_apart (end_of t + 1) n (u ∷ ts) s d apart.3 behind (omega (arith, apart.3.0, apart.3.2, behind)) some (λ k is. last (suc k) (omega (arith, is))))

pub push_holds : (q : ℕ) (ss : List Span) (s : Span) → in_spans (ss ++ (s ∷ [])) q ≡ (in_spans ss q || holds_place s q)
push_holds q ss s = spans_append ss (s ∷ []) q ∙ ap (λ b. in_spans ss q || b) (or_false (holds_place s q))
  where
    or_false : (x : Bool) → (x || false) ≡ x
    or_false true = refl
    or_false false = refl

-- the last span made longer by another that begins where it ends
abbrev pub longer : Span → Span → Span
longer t s = record { start = t.start; len = t.len + s.len }

pub join_last_apart : (p n k : ℕ) (ss : List Span) (s d : Span) → length ss ≡ k + 1 → AreApartFrom p n ss → n ≤ s.start → end_of (slice_index_or ss k d) ≡ s.start → AreApartFrom p (end_of s) (set ss k (longer (slice_index_or ss k d) s))
join_last_apart p n k [] s d is apart behind meet = absurd (omega arith)
join_last_apart p n zero (t ∷ []) s d is apart behind meet = (apart.0, omega (arith, apart.1), omega (arith, meet), tt)
join_last_apart p n zero (t ∷ u ∷ ts) s d is apart behind meet = absurd (omega arith)
join_last_apart p n (suc k) (t ∷ ts) s d is apart behind meet =
    (apart.0, apart.1, omega (arith, apart.2, behind), join_last_apart (end_of t + 1) n k ts s d (omega (arith, is)) apart.3 behind meet)

longer_holds : (q : ℕ) (t s : Span) → end_of t ≡ s.start → holds_place (longer t s) q ≡ (holds_place t q || holds_place s q)
longer_holds q t s meet = elim (cases_lt q t.start) [
  | inl before ↦ rw (holds_none (longer t s) q (λ a b. omega (arith, a, before)), holds_none t q (λ a b. omega (arith, a, before)), holds_none s q (λ a b. omega (arith, a, before, meet))) refl
  | inr from ↦ elim (cases_lt q (end_of t)) [
    | inl inside ↦ rw (holds_from (longer t s) q from (omega (arith, inside)), holds_from t q from inside) refl
    | inr behind ↦ elim (cases_lt q (end_of s)) [
      | inl later ↦ rw (holds_from (longer t s) q from (omega (arith, later, meet)), holds_none t q (λ a b. omega (arith, b, behind)), holds_from s q (omega (arith, behind, meet)) later) refl
      | inr past ↦ rw (holds_none (longer t s) q (λ a b. omega (arith, b, past, meet)), holds_none t q (λ a b. omega (arith, b, behind)), holds_none s q (λ a b. omega (arith, b, past))) refl
    ]
  ]
]

pub join_last_holds : (q k : ℕ) (ss : List Span) (s d : Span) → length ss ≡ k + 1 → end_of (slice_index_or ss k d) ≡ s.start → in_spans (set ss k (longer (slice_index_or ss k d) s)) q ≡ (in_spans ss q || holds_place s q)
join_last_holds q k [] s d is meet = absurd (omega arith)
join_last_holds q zero (t ∷ []) s d is meet = rw (longer_holds q t s meet) (or_ends (holds_place t q) (holds_place s q))
  where
    or_ends : (x y : Bool) → ((x || y) || false) ≡ ((x || false) || y)
    or_ends true y = refl
    or_ends false true = refl
    or_ends false false = refl
join_last_holds q zero (t ∷ u ∷ ts) s d is meet = absurd (omega arith)
join_last_holds q (suc k) (t ∷ ts) s d is meet = ap (λ b. holds_place t q || b) (join_last_holds q k ts s d (omega (arith, is)) meet) ∙ assoc (holds_place t q) (in_spans ts q) (holds_place s q)
  where
    assoc : (x y z : Bool) → (x || (y || z)) ≡ ((x || y) || z)
    assoc true y z = refl
    assoc false y z = refl
