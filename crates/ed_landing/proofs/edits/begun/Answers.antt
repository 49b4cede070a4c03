use Rattle.std.proofs.Common.{refl, sym, ◌∙◌, subst}
use Rattle.std.proofs.lemmas.List.{length-map}
use Rattle.ed_callbacks.specs.HookLists.{hook_table}
use Rattle.ed_descent.specs.Edits.{pieces_of_edits}
use Rattle.ed_descent.specs.InBoxes.{boxes_of}
use Rattle.ed_stock.specs.Landing.{down_fault}
use Rattle.ed_held.specs.Seen.{stock}
use Rattle.ed_landing.specs.EditedStock.{edits_fault, edits_sent}
use Rattle.ed_landing.specs.Landings.{HaveArrived}
use Rattle.ed_landing.proofs.Beginning.{can_send, have_arrived, leads_to, not_refused, order_of, refused_there, stand_on}
use Rattle.ed_landing.proofs.Ended.{handed}
use Rattle.ed_landing.proofs.edits.begun.Goals as goal

pub sent_down-requires-clause-ready : goal.sent_down-requires-clause-ready
sent_down-requires-clause-ready g c = can_send c.args.buffers.now c.args.graph.now c.requires.kept.0 c.requires.kept.1 c.order-order.ensures.levelled

pub sent_down-requires-clause-order : goal.sent_down-requires-clause-order
sent_down-requires-clause-order g c = order_of c.args.buffers.now c.args.graph.now c.requires.kept.0 c.requires.kept.1 c.order-order.ensures.levelled c.order-order.result.now c.order-order.ensures.order

pub land_all-requires-clause-arrived : goal.land_all-requires-clause-arrived
land_all-requires-clause-arrived g c =
    let here : HaveArrived (stock c.args.buffers.now) (edits_sent (hook_table c.args.hooks.now) (stock c.args.buffers.now) c.args.edits.now) (boxes_of c.in-Ok.boxes.items) =
    have_arrived (hook_table c.args.hooks.now) c.args.buffers.now c.args.edits.now (boxes_of c.in-Ok.boxes.items) (length-map c.in-Ok.boxes.items _ ∙ c.in-Ok.ensures.count) c.in-Ok.ensures.pieces c.in-Ok.ensures.inside c.in-Ok.ensures.put_in c.requires.bases in (
      c.args.graph.now,
      edits_sent (hook_table c.args.hooks.now) (stock c.args.buffers.now) c.args.edits.now,
      stand_on c.args.buffers.now c.args.graph.now c.requires.kept.0 c.requires.kept.1 c.order-order.ensures.levelled,
      subst (λ vs. HaveArrived (stock c.args.buffers.now) (edits_sent (hook_table c.args.hooks.now) (stock c.args.buffers.now) c.args.edits.now) (boxes_of vs)) (sym c.deref.ensures.value) here,
    )

pub returns-in_err-moves-clause-fault : goal.returns-in_err-moves-clause-fault
returns-in_err-moves-clause-fault g c =
    let here : HaveArrived (stock c.args.buffers.now) (edits_sent (hook_table c.args.hooks.now) (stock c.args.buffers.now) c.args.edits.now) (boxes_of c.in-Ok.boxes.items) =
    have_arrived (hook_table c.args.hooks.now) c.args.buffers.now c.args.edits.now (boxes_of c.in-Ok.boxes.items) (length-map c.in-Ok.boxes.items _ ∙ c.in-Ok.ensures.count) c.in-Ok.ensures.pieces c.in-Ok.ensures.inside c.in-Ok.ensures.put_in c.requires.bases in
    handed _ _ (edits_fault (hook_table c.args.hooks.now) (stock c.args.buffers.now) c.args.edits.now) c.from_residual.result c.in_err-moves.field-0.0 c.from_residual.ensures
    (refused_there (hook_table c.args.hooks.now) (stock c.args.buffers.now) c.args.edits.now (not_refused (down_fault (hook_table c.args.hooks.now) (stock c.args.buffers.now) (pieces_of_edits c.args.edits.now)) c.in-Ok.boxes c.in-Ok.ensures.fault) c.in_err-moves.field-0.0
    (c.in_err-moves.ensures.landed c.args.graph.now (edits_sent (hook_table c.args.hooks.now) (stock c.args.buffers.now) c.args.edits.now) (stand_on c.args.buffers.now c.args.graph.now c.requires.kept.0 c.requires.kept.1 c.order-order.ensures.levelled)
    (subst (λ vs. HaveArrived (stock c.args.buffers.now) (edits_sent (hook_table c.args.hooks.now) (stock c.args.buffers.now) c.args.edits.now) (boxes_of vs)) (sym c.deref.ensures.value) here)))

pub returns-clause-leads : goal.returns-clause-leads
returns-clause-leads g c =
    let here : HaveArrived (stock c.args.buffers.now) (edits_sent (hook_table c.args.hooks.now) (stock c.args.buffers.now) c.args.edits.now) (boxes_of c.in-Ok.boxes.items) =
    have_arrived (hook_table c.args.hooks.now) c.args.buffers.now c.args.edits.now (boxes_of c.in-Ok.boxes.items) (length-map c.in-Ok.boxes.items _ ∙ c.in-Ok.ensures.count) c.in-Ok.ensures.pieces c.in-Ok.ensures.inside c.in-Ok.ensures.put_in c.requires.bases in
    leads_to (hook_table c.args.hooks.now) c.args.buffers.now c.args.graph.now (stand_on c.args.buffers.now c.args.graph.now c.requires.kept.0 c.requires.kept.1 c.order-order.ensures.levelled) c.args.edits.now
    (not_refused (down_fault (hook_table c.args.hooks.now) (stock c.args.buffers.now) (pieces_of_edits c.args.edits.now)) c.in-Ok.boxes c.in-Ok.ensures.fault)
    c.land_all.new.buffers c.land_all.ensures.same c.in_ok-moves.moves.items
    (c.in_ok-moves.ensures.landed c.args.graph.now (edits_sent (hook_table c.args.hooks.now) (stock c.args.buffers.now) c.args.edits.now) (stand_on c.args.buffers.now c.args.graph.now c.requires.kept.0 c.requires.kept.1 c.order-order.ensures.levelled)
    (subst (λ vs. HaveArrived (stock c.args.buffers.now) (edits_sent (hook_table c.args.hooks.now) (stock c.args.buffers.now) c.args.edits.now) (boxes_of vs)) (sym c.deref.ensures.value) here))
    _ c.in_ok-share.ensures refl refl c.in_ok-moves.ensures.seen
