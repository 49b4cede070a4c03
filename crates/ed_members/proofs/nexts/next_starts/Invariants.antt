use Rattle.ed_members.proofs.Following.{Walked}
use Rattle.ed_members.proofs.nexts.next_starts.Given as goal

abbrev pub invariant-loop-at : goal.invariant-loop-at
invariant-loop-at l = Walked l.members l.held l.order l.at l.nexts.items l.carried

abbrev pub decreases-loop-at : goal.decreases-loop-at
decreases-loop-at l = l.at
