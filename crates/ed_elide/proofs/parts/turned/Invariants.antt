use Rattle.std.proofs.Common.{◌≡◌, ◌++◌, drop}
use Rattle.ed_kept.specs.Kept.{pairs_of}
use Rattle.ed_elide.specs.Pairs.{turned}
use Rattle.ed_elide.proofs.parts.turned.Given as goal

abbrev pub invariant-loop-run : goal.invariant-loop-run
invariant-loop-run l = pairs_of l.list.items ++ turned (pairs_of (drop l.run-index l.runs)) ≡ turned (pairs_of l.runs)
