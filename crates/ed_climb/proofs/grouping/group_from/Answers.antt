use Rattle.std.proofs.Common.{◌≡◌, ◌<◌, ℕ, Err, None, length, ap, ◌∙◌, sym, subst}
use Rattle.std.specs.Prelude.{All}
use Rattle.ed_graph.specs.Standing.{order_in}
use Rattle.ed_base.specs.Numbers.{first_some}
use Rattle.ed_stock.specs.Limits.{stock_limits}
use Rattle.ed_climb.specs.Refusals.{Refuses}
use Rattle.ed_climb.specs.Begins.{landed_from}
use Rattle.ed_climb.specs.Counted.{counts_after}
use Rattle.ed_climb.specs.Limited.{limit_of}
use Rattle.ed_held.specs.Seen.{stock}
use Rattle.ed_risen.proofs.Settled.{all_of}
use Rattle.ed_climb.proofs.Groups.{over_then, ended_on_way, if_grouped, on_way, stopped_on_way}
use Rattle.ed_climb.proofs.grouping.group_from.Goals as goal

pub climb-requires-clause-on_way : goal.climb-requires-clause-on_way
climb-requires-clause-on_way c = on_way c.args.buffers.now c.requires.kept.0 c.args.counts.now c.requires.kept.1 c.args.first c.requires.begun c.order.result.now c.order.ensures.order

pub returns-in-Err-clause-fault : goal.returns-in-Err-clause-fault
returns-in-Err-clause-fault c =
    subst (λ e. Refuses (first_some (stock_limits (landed_from (stock c.args.buffers.now) c.args.first).stock)) (Err e)) (sym c.carried.ensures)
    (stopped_on_way c.args.buffers.now c.requires.kept.0 c.args.counts.now c.requires.kept.1 c.args.first c.requires.begun c.order.result.now c.order.ensures.order _ c.climb.new.buffers c.climb.new.moves.items c.in-Err.fault c.in-Err.ensures.climbed)

pub members_over-members-requires : goal.members_over-members-requires
members_over-members-requires c =
    let ended = ended_on_way c.args.buffers.now c.requires.kept.0 c.args.counts.now c.requires.kept.1 c.args.first c.requires.begun c.order.result.now c.order.ensures.order c.climb.new.buffers c.climb.new.moves.items c.in_default.ensures.climbed in
    subst (All (λ b. b < length c.climb.new.buffers)) (sym c.order-2.ensures.order) (all_of (λ (b : ℕ). b < length c.climb.new.buffers) (order_in c.args.first.graph) ended.there)

pub returns-clause-fault : goal.returns-clause-fault
returns-clause-fault c =
    let ended = ended_on_way c.args.buffers.now c.requires.kept.0 c.args.counts.now c.requires.kept.1 c.args.first c.requires.begun c.order.result.now c.order.ensures.order c.climb.new.buffers c.climb.new.moves.items c.in_default.ensures.climbed in
    let most : c.members_over-members.result ≡ over_then c.climb.new.buffers c.climb.new.moves.items (order_in c.args.first.graph) =
    c.members_over-members.ensures ∙ ap (λ ms. over_then c.climb.new.buffers ms c.order-2.result.now) c.deref.ensures.value ∙ ap (over_then c.climb.new.buffers c.climb.new.moves.items) c.order-2.ensures.order in
    subst (λ o. Refuses o c.group_of.result) (sym ended.fault) (subst (λ o. Refuses (limit_of None (counts_after c.args.counts.now c.climb.new.moves.items) o) c.group_of.result) most c.group_of.ensures.fault)

pub returns-clause-planned : goal.returns-clause-planned
returns-clause-planned c =
    let ended = ended_on_way c.args.buffers.now c.requires.kept.0 c.args.counts.now c.requires.kept.1 c.args.first c.requires.begun c.order.result.now c.order.ensures.order c.climb.new.buffers c.climb.new.moves.items c.in_default.ensures.climbed in
    let most : c.members_over-members.result ≡ over_then c.climb.new.buffers c.climb.new.moves.items (order_in c.args.first.graph) =
    c.members_over-members.ensures ∙ ap (λ ms. over_then c.climb.new.buffers ms c.order-2.result.now) c.deref.ensures.value ∙ ap (over_then c.climb.new.buffers c.climb.new.moves.items) c.order-2.ensures.order in
    if_grouped (limit_of None (counts_after c.args.counts.now c.climb.new.moves.items) c.members_over-members.result) c.group_of.result c.group_of.ensures.fault c.group_of.ensures.moves c.group_of.ensures.turned c.group_of.ensures.graph c.group_of.ensures.counts c.group_of.ensures.versions
    (λ made moves turned graph counts versions limit. (ended.group made moves turned graph counts versions (ap (limit_of None (counts_after c.args.counts.now c.climb.new.moves.items)) (sym most) ∙ limit)).0)

pub returns-clause-outcome : goal.returns-clause-outcome
returns-clause-outcome c =
    let ended = ended_on_way c.args.buffers.now c.requires.kept.0 c.args.counts.now c.requires.kept.1 c.args.first c.requires.begun c.order.result.now c.order.ensures.order c.climb.new.buffers c.climb.new.moves.items c.in_default.ensures.climbed in
    let most : c.members_over-members.result ≡ over_then c.climb.new.buffers c.climb.new.moves.items (order_in c.args.first.graph) =
    c.members_over-members.ensures ∙ ap (λ ms. over_then c.climb.new.buffers ms c.order-2.result.now) c.deref.ensures.value ∙ ap (over_then c.climb.new.buffers c.climb.new.moves.items) c.order-2.ensures.order in
    if_grouped (limit_of None (counts_after c.args.counts.now c.climb.new.moves.items) c.members_over-members.result) c.group_of.result c.group_of.ensures.fault c.group_of.ensures.moves c.group_of.ensures.turned c.group_of.ensures.graph c.group_of.ensures.counts c.group_of.ensures.versions
    (λ made moves turned graph counts versions limit. (ended.group made moves turned graph counts versions (ap (limit_of None (counts_after c.args.counts.now c.climb.new.moves.items)) (sym most) ∙ limit)).1)

pub returns-clause-versions : goal.returns-clause-versions
returns-clause-versions c =
    let ended = ended_on_way c.args.buffers.now c.requires.kept.0 c.args.counts.now c.requires.kept.1 c.args.first c.requires.begun c.order.result.now c.order.ensures.order c.climb.new.buffers c.climb.new.moves.items c.in_default.ensures.climbed in
    let most : c.members_over-members.result ≡ over_then c.climb.new.buffers c.climb.new.moves.items (order_in c.args.first.graph) =
    c.members_over-members.ensures ∙ ap (λ ms. over_then c.climb.new.buffers ms c.order-2.result.now) c.deref.ensures.value ∙ ap (over_then c.climb.new.buffers c.climb.new.moves.items) c.order-2.ensures.order in
    if_grouped (limit_of None (counts_after c.args.counts.now c.climb.new.moves.items) c.members_over-members.result) c.group_of.result c.group_of.ensures.fault c.group_of.ensures.moves c.group_of.ensures.turned c.group_of.ensures.graph c.group_of.ensures.counts c.group_of.ensures.versions
    (λ made moves turned graph counts versions limit. (ended.group made moves turned graph counts versions (ap (limit_of None (counts_after c.args.counts.now c.climb.new.moves.items)) (sym most) ∙ limit)).2)
