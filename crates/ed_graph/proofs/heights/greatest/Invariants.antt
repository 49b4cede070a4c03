use Rattle.std.proofs.Common.{◌≡◌, drop, fold, max}
use Rattle.ed_graph.proofs.heights.greatest.Given as goal

abbrev pub invariant-loop-other : goal.invariant-loop-other
invariant-loop-other l = fold max l.height (drop l.other-index l.heights) ≡ fold max 0 l.heights
