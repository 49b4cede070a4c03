-- The edges of a span as points.
use Rattle.std.specs.Prelude.{ℕ, ◌≤◌}
use Rattle.ed_base.specs.declared.edit.Edges.{Edges}
use Rattle.ed_base.specs.declared.mode.PointMode.{PointMode}
use Rattle.ed_base.specs.declared.mode.SpanMode.{SpanMode}

-- how the start of a span goes, and how its end
abbrev pub start_side : SpanMode → PointMode
start_side SpanMode.EdgeExclusive = PointMode.Positive
start_side SpanMode.EdgeInclusive = PointMode.Negative
start_side SpanMode.EdgePositive = PointMode.Positive
start_side SpanMode.EdgeNegative = PointMode.Negative

abbrev pub end_side : SpanMode → PointMode
end_side SpanMode.EdgeExclusive = PointMode.Negative
end_side SpanMode.EdgeInclusive = PointMode.Positive
end_side SpanMode.EdgePositive = PointMode.Positive
end_side SpanMode.EdgeNegative = PointMode.Negative

-- all four edges lie within a text of length n
pub record AreWithin (n : ℕ) (e : Edges) : Type 0 where
  pub start_neg : e.start_neg ≤ n
  pub start_pos : e.start_pos ≤ n
  pub end_neg : e.end_neg ≤ n
  pub end_pos : e.end_pos ≤ n
