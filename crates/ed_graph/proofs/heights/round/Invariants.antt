use Rattle.std.proofs.Common.{◌≡◌, take, map}
use Rattle.ed_graph.specs.Rounds.{height_over}
use Rattle.ed_graph.proofs.heights.round.Given as goal

abbrev pub invariant-loop-list : goal.invariant-loop-list
invariant-loop-list l = l.next.items ≡ map (height_over l.heights) (take l.list-index l.lists)
