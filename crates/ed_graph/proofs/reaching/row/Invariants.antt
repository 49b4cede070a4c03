use Rattle.std.proofs.Common.{◌≡◌}
use Rattle.ed_graph.specs.Rounds.{row_over}
use Rattle.ed_graph.proofs.reaching.row.Given as goal

abbrev pub invariant-loop-to : goal.invariant-loop-to
invariant-loop-to l = l.cells.items ≡ row_over l.to l.rows l.from l.sources
