-- Where the edges of points and spans go across a step, and through many.
use Rattle.std.specs.Prelude.{ℕ, ◌+◌, not, ◌&&◌, List, map, reverse, nat_eq, nat_le, nat_lt, find, fold, slice_range, option_map, unwrap_or, if◌then◌else◌}
use Rattle.ed_base.specs.declared.edit.Span.{Span}
use Rattle.ed_base.specs.declared.edit.Edges.{Edges}
use Rattle.ed_base.specs.declared.mode.PointMode.{PointMode}
use Rattle.ed_base.specs.declared.mode.SpanMode.{SpanMode}
use Rattle.ed_base.specs.declared.mode.Fidelity.{Fidelity}
use Rattle.ed_base.specs.declared.rule.CustomRule.{CustomRule}
use Rattle.ed_base.specs.Numbers.{find_last}
use Rattle.ed_base.specs.Spans.{end_of, span_between}
use Rattle.ed_base.specs.Step.{Step, inverse_step}

-- the new place of the first kept unit whose old place is at least p, or the new length
abbrev pub positive_edge : Step → ℕ → ℕ
positive_edge s p = unwrap_or (option_map (λ pair. pair.1) (find (λ pair. nat_le p pair.0) s.kept)) s.new_len

-- one more than the new place of the last kept unit whose old place is below p, or 0
abbrev pub negative_edge : Step → ℕ → ℕ
negative_edge s p = unwrap_or (option_map (λ pair. pair.1 + 1) (find_last (λ pair. nat_lt pair.0 p) s.kept)) 0

-- where a point goes
abbrev pub tracked_point : PointMode → ℕ → Step → ℕ
tracked_point PointMode.Positive p s = positive_edge s p
tracked_point PointMode.Negative p s = negative_edge s p

-- where both edges of a span may go
abbrev pub edges : Span → Step → Edges
edges x s = record {
  len = x.len;
  start_neg = negative_edge s x.start;
  start_pos = positive_edge s x.start;
  end_neg = negative_edge s (end_of x);
  end_pos = positive_edge s (end_of x);
}

-- where a span goes, of these edges
abbrev pub span_by_mode : SpanMode → Edges → Span
span_by_mode SpanMode.EdgeExclusive e = span_between e.start_pos e.end_neg
span_by_mode SpanMode.EdgeInclusive e = span_between e.start_neg e.end_pos
span_by_mode SpanMode.EdgePositive e = span_between e.start_pos e.end_pos
span_by_mode SpanMode.EdgeNegative e = span_between e.start_neg e.end_neg

-- the new edges by a custom rule, and the span between them
abbrev pub custom_edges : CustomRule → Edges → ℕ × ℕ
custom_edges CustomRule.Sticky e = if nat_eq e.len 0 then (e.start_pos, e.start_pos) else (e.start_neg, e.end_pos)
custom_edges CustomRule.Caret e = (e.end_pos, e.end_pos)

abbrev pub span_by_rule : CustomRule → Edges → Span
span_by_rule rule e = span_between (custom_edges rule e).0 (custom_edges rule e).1

abbrev pub tracked_span : SpanMode → Span → Step → Span
tracked_span mode x s = span_by_mode mode (edges x s)

abbrev pub custom_span : CustomRule → Span → Step → Span
custom_span rule x s = span_by_rule rule (edges x s)

-- Through the steps, one after another, and back through them. `move` is how one step moves a thing.
module _ {X : Type 0} (move : X → Step → X) where
  abbrev pub through : X → List Step → X
  through x steps = fold move x steps

  abbrev pub back_through : X → List Step → X
  back_through x steps = through x (map inverse_step (reverse steps))

  -- from one version to another, where steps has the step of each version to the next
  abbrev pub between_versions : List Step → X → ℕ → ℕ → X
  between_versions steps x from to = if nat_le from to then through x (slice_range steps from to) else back_through x (slice_range steps to from)

-- The version to which a thing made at version origin is tracked, for its value at version v, which reiterates version r. Only UndoRedo tells them apart.
abbrev pub version_tracked_to : Fidelity → ℕ → ℕ → ℕ → ℕ
version_tracked_to Fidelity.Forward origin v r = v
version_tracked_to Fidelity.Backward origin v r = v
version_tracked_to Fidelity.UndoRedo origin v r = if not (nat_eq r v) && nat_le origin r then r else v
