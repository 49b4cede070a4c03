use Rattle.std.proofs.Common.{◌≡◌, ◌≤◌, ◌++◌, drop}
use Rattle.ed_spans.specs.SpanSets.{AreApartFrom, gaps}
use Rattle.ed_spans.proofs.between.gaps.Given as goal

abbrev pub invariant-loop-span : goal.invariant-loop-span
invariant-loop-span l = record {
  within : l.from ≤ l.len;
  apart : AreApartFrom l.from l.len (drop l.span-index l.spans);
  done : l.list.items ++ gaps l.from l.len (drop l.span-index l.spans) ≡ gaps 0 l.len l.spans;
}
