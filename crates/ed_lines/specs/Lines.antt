-- The lines of a text. A text with k breaks has k + 1 lines.
use Rattle.std.specs.Prelude.{ℕ, ◌+◌, List, [], ◌∷◌, length, nat_lt, nat_le, filter, count_by}
use Rattle.ed_base.specs.declared.edit.LineSpan.{LineSpan}
use Rattle.ed_base.specs.Numbers.{places}
use Rattle.ed_base.specs.Spans.{span_between}
use Rattle.ed_units.specs.Breaks.{break_len}

-- the places at which breaks begin
abbrev pub breaks : List ℕ → List ℕ
breaks units = filter (λ p. nat_lt 0 (break_len units p)) (places (length units))

-- a line without its break, and the length of the break
abbrev pub line : ℕ → ℕ → ℕ → LineSpan
line start end break_len = record { span = span_between start end; break_len = break_len }

-- the lines from a place on, with these breaks ahead
abbrev pub lines_from : List ℕ → ℕ → List ℕ → List LineSpan
lines_from units start [] = line start (length units) 0 ∷ []
lines_from units start (b ∷ bs) = line start b (break_len units b) ∷ lines_from units (b + break_len units b) bs

abbrev pub lines : List ℕ → List LineSpan
lines units = lines_from units 0 (breaks units)

-- the line of a position: the number of breaks that end at it or before
abbrev pub line_of : List ℕ → ℕ → ℕ
line_of units p = count_by (λ b. nat_le (b + break_len units b) p) (breaks units)
