use Rattle.std.proofs.Common.{[], ◌<◌, ◌∙◌, length, arith, ap, sym, subst}
use Rattle.std.specs.Prelude.{All, replicate, slice_index_or, Vec}
use Rattle.std.specs.declared.alloc.Global.{Global}
use Rattle.std.proofs.lemmas.List.{length-map, length-replicate}
use Rattle.ed_base.specs.declared.piece.Piece.{Piece}
use Rattle.ed_callbacks.specs.HookLists.{hook_table}
use Rattle.ed_held.specs.Seen.{stock}
use Rattle.ed_stock.specs.Landing.{down_fault}
use Rattle.ed_descent.specs.Edits.{pieces_of_edits}
use Rattle.ed_descent.specs.Sends.{passing_fault, sent_on}
use Rattle.ed_descent.specs.InBoxes.{boxes_of}
use Rattle.ed_descent.proofs.BoxLemmas.{as_many, filled_count}
use Rattle.ed_descent.proofs.Descending.{can_pass, is_there, passed, pieces_are, pieces_inside, pieces_put_in, refuses, sets_on}
use Rattle.ed_descent.proofs.HeldFacts.{count_held}
use Rattle.ed_descent.specs.declared.edit.BufferEdit.{BufferEdit}
use Rattle.ed_descent.proofs.Told.{none_of, whole_of}
use Rattle.ed_descent.proofs.descent.sent_down.Goals as goal

pub loop-left-init : goal.loop-left-init
loop-left-init g c = record {
  order = omega arith;
  count = sym (length-map c.in_ok-boxes.boxes.items (λ x. x.items)) ∙ ap length c.in_ok-boxes.ensures.boxes ∙ filled_count (pieces_of_edits c.args.edits.now) (replicate (length c.args.buffers.now) []) ∙ length-replicate (length c.args.buffers.now) [];
  on = sets_on (hook_table c.args.hooks.now) c.args.buffers.now c.args.edits.now c.args.order.now (boxes_of c.in_ok-boxes.boxes.items) c.requires.order c.requires.there c.requires.from c.in_ok-boxes.ensures.normal c.in_ok-boxes.ensures.boxes;
}

pub edit_boxes-requires : goal.edit_boxes-requires
edit_boxes-requires g c = subst (λ n. All (λ (e : BufferEdit). e.buffer < n) c.args.edits.now) (count_held c.args.buffers.now) c.requires.there

pub pass-requires-clause-there : goal.pass-requires-clause-there
pass-requires-clause-there g c =
    is_there (hook_table c.args.hooks.now) c.args.buffers.now c.requires.ready c.args.edits.now c.args.order.now c.requires.order c.loop-left.left c.loop-left-test.true c.loop-left.invariant.order c.index-order-left.result c.index-order-left.is (boxes_of c.loop-left.boxes.items) c.loop-left.invariant.on

pub pass-requires-clause-arrived : goal.pass-requires-clause-arrived
pass-requires-clause-arrived g c =
    can_pass (hook_table c.args.hooks.now) c.args.buffers.now c.requires.ready c.args.edits.now c.args.order.now c.requires.order c.loop-left.left c.loop-left-test.true c.loop-left.invariant.order c.index-order-left.result c.index-order-left.is (boxes_of c.loop-left.boxes.items) c.loop-left.invariant.on c.requires.carriers

pub loop-left-preserved : goal.loop-left-preserved
loop-left-preserved g c = record {
  order = omega (arith, c.loop-left.invariant.order);
  count = as_many c.loop-left.boxes.items c.pass.new.boxes.items (sent_on (hook_table c.args.hooks.now) (stock c.args.buffers.now) c.index-order-left.result (slice_index_or (boxes_of c.loop-left.boxes.items) c.index-order-left.result [])) c.in_default.ensures.sent ∙ c.loop-left.invariant.count;
  on = passed (hook_table c.args.hooks.now) c.args.buffers.now c.requires.ready c.args.edits.now c.args.order.now c.requires.order c.loop-left.left c.loop-left-test.true c.loop-left.invariant.order c.index-order-left.result c.index-order-left.is (boxes_of c.loop-left.boxes.items) c.loop-left.invariant.on
      (boxes_of c.pass.new.boxes.items) (none_of (passing_fault (stock c.args.buffers.now) c.index-order-left.result (slice_index_or (boxes_of c.loop-left.boxes.items) c.index-order-left.result [])) c.in_default.field-0 c.in_default.ensures.fault) c.in_default.ensures.sent;
}

pub returns-in-Err-clause-fault : goal.returns-in-Err-clause-fault
returns-in-Err-clause-fault g c =
    whole_of (Unit {0}) (Vec (Vec Piece Global) Global) (passing_fault (stock c.args.buffers.now) c.index-order-left.result (slice_index_or (boxes_of c.loop-left.boxes.items) c.index-order-left.result [])) (down_fault (hook_table c.args.hooks.now) (stock c.args.buffers.now) (pieces_of_edits c.args.edits.now)) c.in-Err.fault
    (refuses (hook_table c.args.hooks.now) c.args.buffers.now c.requires.ready c.args.edits.now c.args.order.now c.requires.order c.loop-left.left c.loop-left-test.true c.loop-left.invariant.order c.index-order-left.result c.index-order-left.is (boxes_of c.loop-left.boxes.items) c.loop-left.invariant.on)
    c.in-Err.ensures.fault

pub returns-clause-count : goal.returns-clause-count
returns-clause-count g c = c.loop-left.invariant.count ∙ sym (count_held c.args.buffers.now)

pub returns-clause-pieces : goal.returns-clause-pieces
returns-clause-pieces g c =
    pieces_are (hook_table c.args.hooks.now) c.args.buffers.now c.requires.ready c.args.edits.now c.args.order.now c.requires.order c.loop-left.left c.loop-left-test.false (boxes_of c.loop-left.boxes.items) c.loop-left.invariant.on

pub returns-clause-inside : goal.returns-clause-inside
returns-clause-inside g c =
    pieces_inside (hook_table c.args.hooks.now) c.args.buffers.now c.requires.ready c.args.edits.now c.args.order.now c.requires.order c.loop-left.left c.loop-left-test.false (boxes_of c.loop-left.boxes.items) c.loop-left.invariant.on

pub returns-clause-put_in : goal.returns-clause-put_in
returns-clause-put_in g c =
    pieces_put_in (hook_table c.args.hooks.now) c.args.buffers.now c.requires.ready c.args.edits.now c.args.order.now c.requires.order c.loop-left.left c.loop-left-test.false (boxes_of c.loop-left.boxes.items) c.loop-left.invariant.on
