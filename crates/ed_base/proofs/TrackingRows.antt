-- Worked examples of tracking and of regions, by computing.
use Rattle.std.proofs.Common.{◌≡◌, ℕ, List, [], ◌∷◌, refl}
use Rattle.std.specs.Prelude.{codes, Some, None, true, false}
use Rattle.ed_base.specs.declared.edit.Replace.{Replace}
use Rattle.ed_base.specs.declared.mode.PointMode.{PointMode}
use Rattle.ed_base.specs.declared.mode.SpanMode.{SpanMode}
use Rattle.ed_base.specs.declared.mode.EdgeMode.{EdgeMode}
use Rattle.ed_base.specs.declared.rule.QueryRule.{QueryRule}
use Rattle.ed_base.specs.declared.rule.CustomRule.{CustomRule}
use Rattle.ed_base.specs.Step.{Step, step_of, inverse_step}
use Rattle.ed_base.specs.Spans.{span_between}
use Rattle.ed_base.specs.Tracking.{tracked_point, tracked_span, custom_span}
use Rattle.ed_base.specs.Hooks.{HookTable}
use Rattle.ed_base.specs.Denial.{Region, denied_at}

abbrev r : ℕ → ℕ → List ℕ → Replace
r s l t = record { start = s; len = l; text = t }

-- the replace of one unit by an equal one
abbrev one : Step
one = step_of (r 1 1 (codes "b") ∷ []) 3

one_1_neg : tracked_point PointMode.Negative 1 one ≡ 1
one_1_neg = refl

one_1_pos : tracked_point PointMode.Positive 1 one ≡ 2
one_1_pos = refl

one_2_neg : tracked_point PointMode.Negative 2 one ≡ 1
one_2_neg = refl

one_2_pos : tracked_point PointMode.Positive 2 one ≡ 2
one_2_pos = refl

back_2_pos : tracked_point PointMode.Positive 2 (inverse_step one) ≡ 2
back_2_pos = refl

back_2_neg : tracked_point PointMode.Negative 2 (inverse_step one) ≡ 1
back_2_neg = refl

-- a unit put in at both ends of a span
abbrev two : Step
two = step_of (r 3 0 (codes "X") ∷ r 6 0 (codes "X") ∷ []) 9

exclusive : tracked_span SpanMode.EdgeExclusive (span_between 3 6) two ≡ span_between 4 7
exclusive = refl

inclusive : tracked_span SpanMode.EdgeInclusive (span_between 3 6) two ≡ span_between 3 8
inclusive = refl

positive : tracked_span SpanMode.EdgePositive (span_between 3 6) two ≡ span_between 4 8
positive = refl

negative : tracked_span SpanMode.EdgeNegative (span_between 3 6) two ≡ span_between 3 7
negative = refl

caret : custom_span CustomRule.Caret (span_between 3 6) two ≡ span_between 8 8
caret = refl

sticky : custom_span CustomRule.Sticky (span_between 3 6) two ≡ span_between 3 8
sticky = refl

-- all of a span replaced
replaced : tracked_span SpanMode.EdgeExclusive (span_between 3 6) (step_of (r 3 3 (codes "Q") ∷ []) 9) ≡ span_between 4 4
replaced = refl

-- a region that denies edits alone
abbrev table : HookTable
table = record { resolvers = []; queries = (codes "edit_only", QueryRule.EditOnly) ∷ []; customs = [] }

abbrev region : Region
region = record { number = 0; span = span_between 0 3; mode = SpanMode.EdgeExclusive; edge = EdgeMode.Allow; query = Some (codes "edit_only") }

asked : denied_at table (region ∷ []) 0 false (span_between 1 1) ≡ None
asked = refl

edited_inside : denied_at table (region ∷ []) 0 true (span_between 1 1) ≡ Some 0
edited_inside = refl

edited_at_edge : denied_at table (region ∷ []) 0 true (span_between 3 3) ≡ None
edited_at_edge = refl
