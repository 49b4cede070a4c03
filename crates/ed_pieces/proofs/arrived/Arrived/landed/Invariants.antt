use Rattle.std.specs.Vec.Iter.{into_iter_items}
use Rattle.ed_pieces.proofs.Laying.{Laying}
use Rattle.ed_pieces.proofs.arrived.Arrived.landed.Given as goal

abbrev pub invariant-loop-part : goal.invariant-loop-part
invariant-loop-part l = Laying l.fn.self.old_len l.fn.self.components l.old_end l.new_end l.changes.items l.ways.items (into_iter_items l.part-iterator)
