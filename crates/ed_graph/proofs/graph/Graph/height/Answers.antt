-- The height that is kept.
use Rattle.ed_graph.proofs.Shown.{height_kept}
use Rattle.ed_graph.proofs.graph.Graph.height.Goals as goal

pub bounds-as_slice-buffer-inside : goal.bounds-as_slice-buffer-inside
bounds-as_slice-buffer-inside c =
    rw c.buffer.view_is (height_kept _ _ _ _ _ c.as_slice.result.now c.args.buffer c.self.invariant c.self.view_is c.as_slice.ensures c.requires).there

pub returns-clause-height : goal.returns-clause-height
returns-clause-height c =
    rw c.buffer.view_is (height_kept _ _ _ _ _ c.as_slice.result.now c.args.buffer c.self.invariant c.self.view_is c.as_slice.ensures c.requires).height

pub returns-clause-shallow : goal.returns-clause-shallow
returns-clause-shallow c =
    rw c.buffer.view_is (height_kept _ _ _ _ _ c.as_slice.result.now c.args.buffer c.self.invariant c.self.view_is c.as_slice.ensures c.requires).shallow
