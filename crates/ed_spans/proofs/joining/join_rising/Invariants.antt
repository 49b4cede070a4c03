use Rattle.std.proofs.Common.{◌≡◌, ◌<◌, ◌^◌, ◌-◌, ◌++◌, drop}
use Rattle.ed_base.specs.Spans.{end_of}
use Rattle.ed_spans.specs.SpanSets.{AreRisingFrom, join_onto, joined}
use Rattle.ed_spans.proofs.joining.join_rising.Given as goal

abbrev pub invariant-loop-at : goal.invariant-loop-at
invariant-loop-at l = record {
  within : end_of l.open < 2 ^ 32;
  rising : AreRisingFrom l.open.start (2 ^ 32 - 1) (drop l.at l.spans);
  done : l.list.items ++ join_onto l.open (drop l.at l.spans) ≡ joined l.spans;
}
