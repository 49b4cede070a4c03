-- Lists of spans as sets of places.
use Rattle.std.specs.Prelude.{ℕ, ◌+◌, ◌-◌, ◌<◌, ◌≤◌, Bool, List, [], ◌∷◌, filter, nat_lt, nat_le, min, max, if◌then◌else◌}
use Rattle.std.specs.List.{list_any}
use Rattle.std.specs.List.Sorted.{IsPermutation, IsNonDecreasingBy}
use Rattle.ed_base.specs.declared.edit.Span.{Span}
use Rattle.ed_base.specs.Spans.{end_of, span_between, holds_place}

-- whether the place lies in one of the spans
abbrev pub in_spans : List Span → ℕ → Bool
in_spans spans q = list_any (λ s. holds_place s q) spans

-- the span ends within a text of this length
abbrev pub EndsWithin : ℕ → Span → Type 0
EndsWithin n s = end_of s ≤ n

-- those of the given spans that have a place, by rising start
pub record AreInOrder (given sorted : List Span) : Type 0 where
  pub same : IsPermutation (filter (λ s. nat_lt 0 s.len) given) sorted
  pub rising : IsNonDecreasingBy (λ s. s.start) sorted

-- nonempty spans by rising start, from a place on and up to n
abbrev pub AreRisingFrom : ℕ → ℕ → List Span → Type 0
AreRisingFrom p n [] = Unit {0}
AreRisingFrom p n (s ∷ ss) = (p ≤ s.start) × (0 < s.len) × (end_of s ≤ n) × AreRisingFrom s.start n ss

-- nonempty spans, of which none touches the next
abbrev pub AreApartFrom : ℕ → ℕ → List Span → Type 0
AreApartFrom p n [] = Unit {0}
AreApartFrom p n (s ∷ ss) = (p ≤ s.start) × (0 < s.len) × (end_of s ≤ n) × AreApartFrom (end_of s + 1) n ss

-- rising spans behind an open one, joined where they overlap or touch
abbrev pub join_onto : Span → List Span → List Span
join_onto s [] = s ∷ []
join_onto s (t ∷ ts) = if nat_le t.start (end_of s) then join_onto (span_between s.start (max (end_of s) (end_of t))) ts else s ∷ join_onto t ts

abbrev pub joined : List Span → List Span
joined [] = []
joined (s ∷ ss) = join_onto s ss

-- the stretch from one place to another, before others, if it has a place
abbrev pub before : ℕ → ℕ → List Span → List Span
before p q ss = if nat_lt p q then span_between p q ∷ ss else ss

-- what lies between spans that lie apart, from place p up to n
abbrev pub gaps : ℕ → ℕ → List Span → List Span
gaps p n [] = before p n []
gaps p n (s ∷ ss) = before p s.start (gaps (end_of s) n ss)

-- how many places below p are held by spans that lie apart
abbrev pub held_below : ℕ → List Span → ℕ
held_below p [] = 0
held_below p (s ∷ ss) = (min p (end_of s) - s.start) + held_below p ss
