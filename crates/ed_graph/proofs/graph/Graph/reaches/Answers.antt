-- What the rows say that are kept.
use Rattle.std.proofs.Common.{◌∙◌}
use Rattle.ed_graph.proofs.Shown.{reaches_kept}
use Rattle.ed_graph.proofs.graph.Graph.reaches.Goals as goal

pub returns : goal.returns
returns c = c.cell.ensures ∙ reaches_kept _ _ _ _ c.as_slice.result.now _ c.args.from c.args.to c.self.invariant c.self.view_is c.as_slice.ensures c.requires.from_there c.requires.to_there
