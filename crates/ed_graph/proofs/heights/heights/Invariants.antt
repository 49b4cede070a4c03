use Rattle.std.proofs.Common.{◌≡◌}
use Rattle.ed_graph.proofs.RoundLemmas.{heights_after}
use Rattle.ed_graph.proofs.heights.heights.Given as goal

abbrev pub invariant-loop-done : goal.invariant-loop-done
invariant-loop-done l = l.heights.items ≡ heights_after l.done l.lists
