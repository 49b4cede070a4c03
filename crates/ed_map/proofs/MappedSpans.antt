-- The mapping of spans, by members.
use Rattle.std.proofs.Common.{◌≡◌, ℕ, ◌≤◌, length, Some, Option, ap, ◌∙◌, arith}
use Rattle.ed_base.specs.declared.edit.Span.{Span}
use Rattle.ed_base.specs.Spans.{end_of}
use Rattle.ed_base.specs.Runs.{runs}
use Rattle.ed_layers.specs.Records.{Record}
use Rattle.ed_layers.specs.Cells.{cells}
use Rattle.ed_layers.specs.Mapping.{down_span, up_span, lower_len}
use Rattle.ed_map.specs.Layers.{record_len, AreLayers, OneVersion}
use Rattle.ed_map.specs.Down.{down_within}
use Rattle.ed_spans.specs.SpanSets.{in_spans, EndsWithin}
use Rattle.ed_map.specs.Up.{up_within}
use Rattle.ed_map.proofs.MemberCells.{cells_len}
use Rattle.ed_map.proofs.DownImages.{down_holds}
use Rattle.ed_map.proofs.UpImages.{up_holds}
use Rattle.std.specs.Prelude.{All}
use Rattle.ed_map.proofs.ReachedVersions.{all_within, down_inside}
use Rattle.ed_spans.proofs.RunLemmas.{runs_same}

module _ (record_at : ℕ → ℕ → Option Record) (rank : ℕ → ℕ → ℕ) where
  pub down_span_runs : AreLayers record_at rank → (top v : ℕ) (span : Span) (to : ℕ) (r : Record) → record_at top v ≡ Some r → end_of span ≤ record_len r →
      down_span record_at top v span to ≡ runs (in_spans (down_within record_at 9 to top v span.start (end_of span))) (lower_len record_at top v to)
  down_span_runs layers top v span to r is within = runs_same _ _ (lower_len record_at top v to) (λ q below. down_holds record_at rank layers 9 to q top v span.start (end_of span) r is (omega (arith, layers.low top v r is)) within)

  pub up_span_runs : AreLayers record_at rank → (top v : ℕ) (span : Span) (of_ : ℕ) (r : Record) → record_at top v ≡ Some r →
      up_span record_at top v span of_ ≡ runs (in_spans (up_within record_at 9 of_ span top v)) (record_len r)
  up_span_runs layers top v span of_ r is =
      let n : length (cells record_at top v) ≡ record_len r = cells_len record_at rank layers 9 top v r is (omega (arith, layers.low top v r is)) in
      ap (runs _) n ∙ runs_same _ _ (record_len r) (λ k below. up_holds record_at rank layers 9 of_ span top v k r is (omega (arith, layers.low top v r is)) below)

  -- where the images of a span end
  pub down_ends : AreLayers record_at rank → OneVersion record_at → (top v : ℕ) (span : Span) (to : ℕ) (r : Record) → record_at top v ≡ Some r → end_of span ≤ record_len r → All (EndsWithin (lower_len record_at top v to)) (down_within record_at 9 to top v span.start (end_of span))
  down_ends layers single top v span to r is within = all_within (lower_len record_at top v to) (down_within record_at 9 to top v span.start (end_of span)) (down_inside record_at rank layers single 9 to top v span.start (end_of span) r is (omega (arith, layers.low top v r is)) (omega arith) within)
