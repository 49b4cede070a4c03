use Rattle.std.proofs.Common.{◌≡◌, ◌+◌, drop, map, fold, max}
use Rattle.std.specs.Prelude.{slice_index}
use Rattle.ed_graph.specs.Rounds.{height_over}
use Rattle.ed_graph.proofs.heights.over.Given as goal

abbrev pub invariant-loop-source : goal.invariant-loop-source
invariant-loop-source l = fold max l.height (map (λ s. slice_index l.heights s + 1) (drop l.source-index l.sources)) ≡ height_over l.heights l.sources
