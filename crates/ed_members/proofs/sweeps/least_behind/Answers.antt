-- One member more.
use Rattle.std.proofs.Common.{length, sym, inl, inr, ◌∙◌}
use Rattle.std.specs.Prelude.{slice_index}
use Rattle.ed_members.proofs.Permuted.{order_below}
use Rattle.ed_members.proofs.Sweeping.{on_more, here_at}
use Rattle.ed_members.proofs.sweeps.least_behind.Goals as goal

pub bounds-members-index : goal.bounds-members-index
bounds-members-index c = order_below (length c.args.members.now) c.args.order.now c.loop-at.at c.requires.all c.loop-at-test.true

pub loop-at-preserved : goal.loop-at-preserved
loop-at-preserved c =
    on_more c.args.members.now c.args.order.now c.loop-at.at c.loop-at.least c.lowered-least.result c.loop-at.before c.reach_of-here.result c.spanning-before.result c.requires.sorted c.loop-at.invariant c.loop-at-test.true
    (c.reach_of-here.ensures ∙ here_at c.args.members.now (slice_index c.args.order.now c.loop-at.at) c.index-members-index.result (order_below (length c.args.members.now) c.args.order.now c.loop-at.at c.requires.all c.loop-at-test.true) c.index-members-index.is)
    c.lowered-least.ensures.low (elim c.lowered-least.ensures.counted [ inl t ↦ inl (sym c.are_clear.ensures ∙ t) | inr l ↦ inr l ]) c.spanning-before.ensures
