use Rattle.std.proofs.Common.{◌≡◌, length, map}
use Rattle.ed_base.specs.Numbers.{places}
use Rattle.ed_graph.specs.Standing.{sources_in}
use Rattle.ed_graph.specs.Rounds.{row_over}
use Rattle.ed_graph.proofs.reaching.round.Given as goal

abbrev pub invariant-loop-from : goal.invariant-loop-from
invariant-loop-from l = l.next.items ≡ map (λ from. row_over (length l.lists) l.rows from (sources_in l.lists from)) (places l.from)
