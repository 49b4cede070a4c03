-- What lies between spans that lie apart.
use Rattle.std.proofs.Common.{◌≡◌, ℕ, ◌+◌, ◌-◌, ◌<◌, ◌≤◌, false, not, ◌||◌, List, [], ◌∷◌, ◌++◌, length, drop, slice_index_or, inl, inr, refl, sym, ap, subst, ◌∙◌, arith, append_assoc}
use Rattle.std.proofs.lemmas.List.{drop_more, drop_all}
use Rattle.std.proofs.lemmas.Bool.{cases_lt, lt-ltb, le-ltb}
use Rattle.ed_base.specs.declared.edit.Span.{Span}
use Rattle.ed_base.specs.Runs.{runs}
use Rattle.ed_base.specs.Spans.{end_of, span_between, holds_place}
use Rattle.ed_spans.specs.SpanSets.{in_spans, AreApartFrom, before, gaps}
use Rattle.ed_spans.proofs.PlaceLemmas.{holds_from, holds_none}
use Rattle.ed_spans.proofs.RunLemmas.{apart_before, apart_runs}

pub apart_earlier : (p q n : ℕ) (ts : List Span) → p ≤ q → AreApartFrom q n ts → AreApartFrom p n ts
apart_earlier p q n [] below apart = tt
apart_earlier p q n (t ∷ ts) below apart = (omega (arith, apart.0), apart.1, apart.2, apart.3)

pub gaps_apart : (p n : ℕ) (ss : List Span) → AreApartFrom p n ss → AreApartFrom p n (gaps p n ss)
gaps_apart p n [] apart = elim (cases_lt p n) [
  | inl some ↦ rw (lt-ltb p n some) (omega arith, omega (arith, some), omega (arith, some), tt)
  | inr none ↦ rw (le-ltb p n none) tt
]
gaps_apart p n (s ∷ ss) apart =
    let rest : AreApartFrom (end_of s) n (gaps (end_of s) n ss) = gaps_apart (end_of s) n ss (apart_earlier (end_of s) (end_of s + 1) n ss (omega arith) apart.3) in
    elim (cases_lt p s.start) [
      | inl some ↦ rw (lt-ltb p s.start some) (omega arith, omega (arith, some), omega (arith, some, apart.2), apart_earlier (p + (s.start - p) + 1) (end_of s) n (gaps (end_of s) n ss) (omega (arith, some, apart.1)) rest)
      | inr none ↦ rw (le-ltb p s.start none) (apart_earlier p (end_of s) n (gaps (end_of s) n ss) (omega (arith, apart.0)) rest)
    ]

before_holds : (p a q : ℕ) (ss : List Span) → in_spans (before p a ss) q ≡ (holds_place (span_between p a) q || in_spans ss q)
before_holds p a q ss = elim (cases_lt p a) [
  | inl some ↦ rw (lt-ltb p a some) refl
  | inr none ↦ rw (le-ltb p a none, holds_none (span_between p a) q (λ x y. omega (arith, x, y, none))) refl
]

-- the gaps from p on hold nothing before p
gaps_before : (p n q : ℕ) (ss : List Span) → AreApartFrom p n ss → q < p → in_spans (gaps p n ss) q ≡ false
gaps_before p n q ss apart below = apart_before p n q (gaps p n ss) (gaps_apart p n ss apart) below

pub gaps_hold : (p n q : ℕ) (ss : List Span) → AreApartFrom p n ss → p ≤ q → q < n → in_spans (gaps p n ss) q ≡ not (in_spans ss q)
gaps_hold p n q [] apart above below = before_holds p n q [] ∙ rw (holds_from (span_between p n) q above (omega (arith, above, below))) refl
gaps_hold p n q (s ∷ ss) apart above below =
    let later : AreApartFrom (end_of s) n ss = apart_earlier (end_of s) (end_of s + 1) n ss (omega arith) apart.3 in
    before_holds p s.start q (gaps (end_of s) n ss) ∙ elim (cases_lt q s.start) [
      | inl front ↦ rw (holds_from (span_between p s.start) q above (omega (arith, above, front)), holds_none s q (λ x y. omega (arith, x, front)), apart_before (end_of s + 1) n q ss apart.3 (omega (arith, front))) refl
      | inr from ↦ rw (holds_none (span_between p s.start) q (λ x y. omega (arith, x, y, from, apart.0))) (elim (cases_lt q (end_of s)) [
        | inl inside ↦ rw (holds_from s q from inside, gaps_before (end_of s) n q ss later inside) refl
        | inr behind ↦ rw (holds_none s q (λ x y. omega (arith, y, behind))) (gaps_hold (end_of s) n q ss later behind below)
      ])
    ]

-- The gaps are the runs of what the spans don't hold.
pub gaps_runs : (n : ℕ) (ss : List Span) → AreApartFrom 0 n ss → gaps 0 n ss ≡ runs (λ q. not (in_spans ss q)) n
gaps_runs n ss apart = sym (apart_runs (λ q. not (in_spans ss q)) n (gaps 0 n ss) (gaps_apart 0 n ss apart) (λ q below. sym (gaps_hold 0 n q ss apart (omega arith) below)))

-- ---- one pass over spans that lie apart

before_front : (p q : ℕ) (ss : List Span) → before p q ss ≡ before p q [] ++ ss
before_front p q ss = elim (cases_lt p q) [
  | inl some ↦ rw (lt-ltb p q some) refl
  | inr none ↦ rw (le-ltb p q none) refl
]

pub gap_next : (at p n : ℕ) (spans done whole : List Span) (d : Span) → at < length spans → done ++ gaps p n (drop at spans) ≡ whole → (done ++ before p (slice_index_or spans at d).start []) ++ gaps (end_of (slice_index_or spans at d)) n (drop (at + 1) spans) ≡ whole
gap_next at p n spans done whole d below is =
    let split : drop at spans ≡ slice_index_or spans at d ∷ drop (at + 1) spans = drop_more spans at d below in
    append_assoc done (before p (slice_index_or spans at d).start []) (gaps (end_of (slice_index_or spans at d)) n (drop (at + 1) spans))
    ∙ ap (λ u. done ++ u) (sym (before_front p (slice_index_or spans at d).start (gaps (end_of (slice_index_or spans at d)) n (drop (at + 1) spans))))
    ∙ ap (λ u. done ++ gaps p n u) (sym split) ∙ is

pub apart_next : (at p n : ℕ) (spans : List Span) (d : Span) → at < length spans → AreApartFrom p n (drop at spans) → (p ≤ (slice_index_or spans at d).start) × ((end_of (slice_index_or spans at d) ≤ n) × AreApartFrom (end_of (slice_index_or spans at d)) n (drop (at + 1) spans))
apart_next at p n spans d below apart =
    let split : drop at spans ≡ slice_index_or spans at d ∷ drop (at + 1) spans = drop_more spans at d below in
    let all : AreApartFrom p n (slice_index_or spans at d ∷ drop (at + 1) spans) = subst (AreApartFrom p n) split apart in
    (all.0, (all.2, apart_earlier (end_of (slice_index_or spans at d)) (end_of (slice_index_or spans at d) + 1) n (drop (at + 1) spans) (omega arith) all.3))

pub gap_last : (at p n : ℕ) (spans done whole : List Span) → length spans ≤ at → done ++ gaps p n (drop at spans) ≡ whole → done ++ before p n [] ≡ whole
gap_last at p n spans done whole end is = ap (λ u. done ++ gaps p n u) (sym (drop_all at spans end)) ∙ is
