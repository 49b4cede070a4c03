use Rattle.std.specs.Vec.Iter.{into_iter_items}
use Rattle.ed_pieces.proofs.Laying.{Running}
use Rattle.ed_pieces.proofs.landing.put_in.Given as goal

abbrev pub invariant-loop-run : goal.invariant-loop-run
invariant-loop-run l = Running l.fn.runs.items l.fn.ways.items l.at l.text l.ways.items l.start (into_iter_items l.run-iterator)
