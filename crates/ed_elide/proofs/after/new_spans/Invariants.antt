use Rattle.std.proofs.Common.{◌≡◌, ◌^◌, ◌-◌, ◌++◌, drop}
use Rattle.ed_kept.specs.Kept.{ArePairsRising, pairs_of}
use Rattle.ed_elide.specs.AfterStep.{new_spans}
use Rattle.ed_elide.proofs.after.new_spans.Given as goal

abbrev pub invariant-loop-run : goal.invariant-loop-run
invariant-loop-run l = record {
  rising : ArePairsRising 0 0 (2 ^ 32 - 1) (2 ^ 32 - 1) (pairs_of (drop l.run-index l.runs));
  done : l.list.items ++ new_spans (drop l.run-index l.runs) ≡ new_spans l.runs;
}
