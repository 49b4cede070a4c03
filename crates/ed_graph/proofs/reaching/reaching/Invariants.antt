use Rattle.std.proofs.Common.{◌≡◌}
use Rattle.ed_graph.proofs.RoundLemmas.{rows_before}
use Rattle.ed_graph.proofs.reaching.reaching.Given as goal

abbrev pub invariant-loop-done : goal.invariant-loop-done
invariant-loop-done l = l.rows.items ≡ rows_before l.done l.lists
