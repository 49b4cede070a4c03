-- Each call of the closure gives the start, so the sort is by the starts.
use Rattle.std.proofs.Common.{rules}
use Rattle.std.proofs.lemmas.List.Sorted.{IsNonDecreasingBy-from_sort_by_key}
use Rattle.ed_base.specs.declared.edit.Span.{Span}
use Rattle.ed_spans.proofs.joining.by_start.Goals as goal

pub returns : goal.returns
returns c = record {
  same = rw (← c.in_ok-order.ensures) c.sort_by_key.ensures.permutation;
  rising = IsNonDecreasingBy-from_sort_by_key (λ (s : Span). s.start) _ c.in_ok-sort_by_key.ensures.sorted (λ a r q k. search rules);
}
