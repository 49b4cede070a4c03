use Rattle.ed_members.proofs.Sweeping.{SweptOn}
use Rattle.ed_members.proofs.sweeps.least_behind.Given as goal

abbrev pub invariant-loop-at : goal.invariant-loop-at
invariant-loop-at l = SweptOn l.members l.order l.at l.least l.before
