-- Kept pairs by the spans of what is shown.
use Rattle.std.specs.Prelude.{ℕ, ◌+◌, ◌-◌, min, max, List, [], ◌∷◌, map, if◌then◌else◌}
use Rattle.ed_base.specs.declared.edit.Span.{Span}
use Rattle.ed_base.specs.Spans.{end_of}
use Rattle.ed_kept.specs.declared.kept.KeptRun.{KeptRun}
use Rattle.ed_kept.specs.Kept.{run_pairs}
use Rattle.ed_spans.specs.SpanSets.{in_spans, held_below}

-- The pairs whose old place lies in spans that lie apart, with the old place told by how many places of the spans stand before it, from a number on.
abbrev pub placed_in : ℕ → List Span → List (ℕ × ℕ) → List (ℕ × ℕ)
placed_in from ss [] = []
placed_in from ss (pair ∷ pairs) = if in_spans ss pair.0 then (from + held_below pair.0 ss, pair.1) ∷ placed_in from ss pairs else placed_in from ss pairs

-- the pairs of the step back
abbrev pub turned : List (ℕ × ℕ) → List (ℕ × ℕ)
turned pairs = map (λ pair. (pair.1, pair.0)) pairs

-- the pairs of the part of a run that lies in a span, before which so many places of the spans stand
abbrev pub part_pairs : ℕ → Span → KeptRun → List (ℕ × ℕ)
part_pairs from s r = run_pairs (from + (max r.old s.start - s.start)) (r.new + (max r.old s.start - r.old)) (min (r.old + r.len) (end_of s) - max r.old s.start)
