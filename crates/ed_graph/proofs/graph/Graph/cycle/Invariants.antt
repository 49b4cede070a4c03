use Rattle.std.proofs.Common.{◌≡◌, drop}
use Rattle.ed_graph.specs.Standing.{first_cycle}
use Rattle.ed_graph.proofs.graph.Graph.cycle.Given as goal

abbrev pub invariant-loop-source : goal.invariant-loop-source
invariant-loop-source l = first_cycle l.self l.buffer (drop l.source-index l.sources) ≡ first_cycle l.self l.buffer l.sources
