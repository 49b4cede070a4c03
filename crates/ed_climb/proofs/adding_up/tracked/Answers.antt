use Rattle.std.proofs.Common.{◌+◌, ap, sym, ◌∙◌}
use Rattle.ed_risen.proofs.Tracked.{no_more, one_more}
use Rattle.ed_climb.proofs.adding_up.tracked.Goals as goal
use Rattle.ed_climb.proofs.adding_up.tracked.Goals.{then-is_tracked+in_ok-total, else-is_tracked}

pub loop-i-preserved : goal.loop-i-preserved
loop-i-preserved c = elim c.if-is_tracked.branch [
  | then-is_tracked+in_ok-total w ↦ w.total-is ∙ w.in_ok-total.ensures ∙ ap (λ n. n + 1) c.loop-i.invariant ∙ sym (one_more c.args.members.now c.loop-i.i c.get.result.now c.get.ensures (sym c.is_tracked.ensures ∙ w.if-is_tracked.true))
  | else-is_tracked w ↦ w.total-is ∙ c.loop-i.invariant ∙ sym (no_more c.args.members.now c.loop-i.i c.get.result.now c.get.ensures (sym c.is_tracked.ensures ∙ w.if-is_tracked.false))
]
