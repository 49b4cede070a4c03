-- Spans of a text: a start and a length, with an end.
use Rattle.std.specs.Prelude.{ℕ, ◌+◌, ◌-◌, Bool, ◌&&◌, ◌||◌, nat_eq, nat_lt, nat_le, max, min}
use Rattle.ed_base.specs.declared.edit.Span.{Span}

abbrev pub end_of : Span → ℕ
end_of s = s.start + s.len

-- The span from one place to another. Where the end lies before the start it is empty at the start.
abbrev pub span_between : ℕ → ℕ → Span
span_between start end = record { start = start; len = end - start }

abbrev pub is_empty : Span → Bool
is_empty s = nat_eq s.len 0

-- whether the unit at the place lies in the span
abbrev pub holds_place : Span → ℕ → Bool
holds_place s p = nat_le s.start p && nat_lt p (end_of s)

-- whether the gap is in the span, both ends included
abbrev pub touches_gap : Span → ℕ → Bool
touches_gap s p = nat_le s.start p && nat_le p (end_of s)

abbrev pub is_same_span : Span → Span → Bool
is_same_span s t = nat_eq s.start t.start && nat_eq s.len t.len

-- whether some unit lies in both
abbrev pub shares_unit : Span → Span → Bool
shares_unit s t = nat_lt (max s.start t.start) (min (end_of s) (end_of t))

-- what both have
abbrev pub shared : Span → Span → Span
shared s t = span_between (max s.start t.start) (min (end_of s) (end_of t))

-- by start, and then by end
abbrev pub is_before : Span → Span → Bool
is_before s t = nat_lt s.start t.start || (nat_eq s.start t.start && nat_lt s.len t.len)
