-- What is kept beside the hidden runs.
use Rattle.std.specs.Prelude.{◌≡◌, ℕ, ◌+◌, ◌-◌, ◌<◌, ◌^◌, List, [], ◌∷◌}
use Rattle.ed_base.specs.declared.edit.Span.{Span}
use Rattle.ed_base.specs.Spans.{end_of}
use Rattle.ed_spans.specs.SpanSets.{AreApartFrom}

-- how many shown places stand before each span, from source place p and shown place j on
abbrev pub shown_before : ℕ → ℕ → List Span → List ℕ
shown_before p j [] = []
shown_before p j (s ∷ ss) = (j + (s.start - p)) ∷ shown_before (end_of s) (j + (s.start - p)) ss

-- the spans lie apart within n places, and what is kept agrees with them
pub record IsKept (n : ℕ) (spans : List Span) (kept_places : List ℕ) : Type 0 where
  pub short : n < 2 ^ 32
  pub apart : AreApartFrom 0 n spans
  pub places : kept_places ≡ shown_before 0 0 spans
