use Rattle.std.proofs.Common.{◌≡◌, ◌++◌, ◌∷◌, [], List, refl, ap, ◌∙◌}
use Rattle.ed_group.specs.Answers.{spans_fault}
use Rattle.ed_climb.specs.Climbing.{move_to}
use Rattle.ed_climb.specs.declared.fault.PlanFault.{PlanFault}
use Rattle.ed_held.specs.declared.moves.Move.{Move}
use Rattle.ed_held.specs.Seen.{stock}
use Rattle.ed_group.proofs.Begins.{handed_on}
use Rattle.ed_group.proofs.Refusing.{refuses_memory}
use Rattle.ed_group.proofs.SpansBegins.{below_held, spans_lead}
use Rattle.ed_group.proofs.spans.replaced.Goals as goal

pub may_turn-requires : goal.may_turn-requires
may_turn-requires c = below_held c.args.buffers.now c.args.buffer c.requires.there

pub returns-in_err-add-clause-fault : goal.returns-in_err-add-clause-fault
returns-in_err-add-clause-fault c =
    handed_on _ (spans_fault (stock c.args.buffers.now) c.args.buffer c.args.first c.args.removed c.args.added.items) c.from_residual-in_err-add.result PlanFault.OutOfMemory c.from_residual-in_err-add.ensures (refuses_memory _ _)

pub returns-clause-leads : goal.returns-clause-leads
returns-clause-leads c =
    let moves : c.add.new.moves.items ≡ move_to c.args.buffer c.in_ok-graph.next [] ∷ [] = c.in_ok-add.ensures.moves ∙ ap (λ ts. c.new-moves.result.items ++ move_to c.args.buffer c.in_ok-graph.next ts ∷ []) c.empty.ensures ∙ ap (λ (ms : List Move). ms ++ move_to c.args.buffer c.in_ok-graph.next [] ∷ []) c.new-moves.ensures.items in
    spans_lead c.args.buffers.now c.args.graph.now c.requires.kept.0 c.requires.kept.1 c.order-order.ensures.levelled c.args.buffer c.requires.there c.args.first c.args.removed c.args.added.items c.requires.inside c.begun.new.buffers c.in_ok-graph.graph c.in_ok-graph.next c.in_ok-graph.ensures.begun
    (λ h is. c.may_turn.ensures h is c.if-not-may_turn.false) _ refl moves refl c.in_ok-add.ensures.seen
