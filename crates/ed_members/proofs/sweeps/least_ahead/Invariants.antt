use Rattle.ed_members.proofs.Sweeping.{SweptBack}
use Rattle.ed_members.proofs.sweeps.least_ahead.Given as goal

abbrev pub invariant-loop-at : goal.invariant-loop-at
invariant-loop-at l = SweptBack l.members l.order l.at l.least l.behind

abbrev pub decreases-loop-at : goal.decreases-loop-at
decreases-loop-at l = l.at
