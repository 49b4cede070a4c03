use Rattle.std.proofs.Common.{◌-◌, ◌+◌, drop, length}
use Rattle.ed_kept.specs.Kept.{pairs_of}
use Rattle.ed_elide.specs.Pairs.{placed_in}
use Rattle.ed_elide.proofs.PartLemmas.{Walking}
use Rattle.ed_elide.proofs.parts.parts_within.Given as goal

abbrev pub invariant-loop-at : goal.invariant-loop-at
invariant-loop-at l = Walking (placed_in 0 l.spans (pairs_of l.runs)) l.from (drop l.next l.spans) (drop l.at l.runs) l.list.items

abbrev pub decreases-loop-at : goal.decreases-loop-at
decreases-loop-at l = (length l.runs - l.at) + (length l.spans - l.next)
