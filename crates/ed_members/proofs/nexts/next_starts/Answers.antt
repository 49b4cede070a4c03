-- The walk.
use Rattle.std.proofs.Common.{◌≡◌, ℕ, ◌-◌, ◌<◌, length, sym, ◌∙◌, ap, refl, arith}
use Rattle.std.specs.Prelude.{slice_index}
use Rattle.std.proofs.lemmas.Option.{slice_get-get_or}
use Rattle.ed_members.specs.Nexts.{key_if, source_at}
use Rattle.ed_members.specs.Sorted.{source_key}
use Rattle.ed_members.proofs.Following.{walked_start, walked_more}
use Rattle.ed_members.proofs.Permuted.{order_below}
use Rattle.ed_members.proofs.nexts.next_starts.Goals as goal

pub loop-at-init : goal.loop-at-init
loop-at-init c = walked_start c.args.members.now c.args.held.now c.args.order.now c.in_ok-nexts.nexts.items (omega (arith, c.in_ok-nexts.ensures.len))

pub bounds-members-index : goal.bounds-members-index
bounds-members-index c = order_below (length c.args.members.now) c.args.order.now (c.loop-at.at - 1) c.requires.all (omega (arith, c.loop-at.invariant.within))

pub index_mut-requires : goal.index_mut-requires
index_mut-requires c =
    let below : slice_index c.args.order.now (c.loop-at.at - 1) < length c.args.members.now = order_below (length c.args.members.now) c.args.order.now (c.loop-at.at - 1) c.requires.all (omega (arith, c.loop-at.invariant.within)) in
    omega (arith, c.loop-at.invariant.long)

pub bounds-held-index : goal.bounds-held-index
bounds-held-index c =
    let below : slice_index c.args.order.now (c.loop-at.at - 1) < length c.args.members.now = order_below (length c.args.members.now) c.args.order.now (c.loop-at.at - 1) c.requires.all (omega (arith, c.loop-at.invariant.within)) in
    omega (arith, c.requires.long)

pub loop-at-preserved : goal.loop-at-preserved
loop-at-preserved c =
    let i : ℕ = slice_index c.args.order.now (c.loop-at.at - 1) in
    let below : slice_index c.args.order.now (c.loop-at.at - 1) < length c.args.members.now = order_below (length c.args.members.now) c.args.order.now (c.loop-at.at - 1) c.requires.all (omega (arith, c.loop-at.invariant.within)) in
    let source : c.source_key-source.result ≡ source_at c.args.members.now i =
    c.source_key-source.ensures ∙ (ap source_key c.index-members-index.is ∙ sym (ap key_if (slice_get-get_or c.args.members.now i c.index-members-index.result below))) in
    walked_more c.args.members.now c.args.held.now c.args.order.now c.loop-at.at (c.loop-at.at - 1) c.loop-at.nexts.items c.loop-at.carried i c.source_key-source.result c.on_source-next.result c.first_start.result
    c.requires.sorted c.loop-at.invariant (omega (arith, c.loop-at-test.true)) refl below source c.on_source-next.ensures c.first_start.ensures

pub returns-clause-long : goal.returns-clause-long
returns-clause-long c = c.loop-at.invariant.long

pub returns-clause-each : goal.returns-clause-each
returns-clause-each c = λ p below. c.loop-at.invariant.done p (omega (arith, c.loop-at-test.false)) below
