-- Nothing is kept of no buffers.
use Rattle.ed_graph.proofs.Shown.{kept_empty}
use Rattle.ed_graph.proofs.graph.Graph.new.Goals as goal

pub invariant_of-result : goal.invariant_of-result
invariant_of-result c = rw (c.empty.ensures, c.empty-2.ensures, c.empty-3.ensures, c.empty-4.ensures) kept_empty
