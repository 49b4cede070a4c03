use Rattle.std.proofs.Common.{◌≡◌, ◌≤◌, ◌++◌, drop}
use Rattle.ed_spans.specs.SpanSets.{AreApartFrom}
use Rattle.ed_elide.specs.Kept.{shown_before}
use Rattle.ed_elide.proofs.hidden.places_of.Given as goal

abbrev pub invariant-loop-span : goal.invariant-loop-span
invariant-loop-span l = record {
  within : l.shown ≤ l.end;
  apart : AreApartFrom l.end l.len (drop l.span-index l.spans);
  done : l.places.items ++ shown_before l.end l.shown (drop l.span-index l.spans) ≡ shown_before 0 0 l.spans;
}
