use Rattle.std.proofs.Common.{◌≡◌, ℕ, ◌<◌, ◌≤◌, ◌^◌, List, [], length, map, Option, Some, None, refl, sym, ap, ◌∙◌, subst, arith}
use Rattle.std.specs.Prelude.{slice_index_or}
use Rattle.std.proofs.lemmas.List.{length-map}
use Rattle.ed_base.specs.declared.Piece.{Piece}
use Rattle.ed_buffer.specs.Planning.{put_in}
use Rattle.ed_callbacks.specs.HookLists.{hook_table}
use Rattle.ed_descent.proofs.BoxLemmas.{box_read}
use Rattle.ed_descent.specs.InBoxes.{boxes_of}
use Rattle.ed_members.specs.Steps.{step_seen}
use Rattle.ed_members.specs.declared.SourceStep.{SourceStep}
use Rattle.ed_held.specs.Landing.{CanLand}
use Rattle.ed_held.specs.Moves.{move_seen}
use Rattle.ed_held.specs.Seen.{known, stock}
use Rattle.ed_held.specs.declared.moves.Move.{Move}
use Rattle.ed_landing.specs.Bases.{is_met}
use Rattle.ed_landing.specs.Landings.{SoFar, landing_fault}
use Rattle.ed_landing.proofs.Boxed.{can_take, few_put_in}
use Rattle.ed_landing.proofs.Ended.{all_seen, ends_landed, ends_long, handed, none_so_far, not_some}
use Rattle.ed_landing.proofs.landings.land_all.Goals as goal

pub loop-index-init : goal.loop-index-init
loop-index-init g c = record {
  same = refl;
  below = omega arith;
  seen = ap (λ (xs : List SourceStep). map (λ s. (s.source, step_seen s)) xs) c.new-steps.ensures.items ∙ sym (ap (λ (ms : List Move). map move_seen ms) c.new-moves.ensures.items);
  going = λ graph pending on arrived. none_so_far (hook_table c.args.hooks.now) c.args.buffers.now graph on pending c.new-moves.result.items c.new-moves.ensures.items;
}

pub visit-requires-clause-can : goal.visit-requires-clause-can
visit-requires-clause-can g c = λ h is met.
    let box : slice_index_or (boxes_of c.args.boxes.now) c.loop-index.index [] ≡ c.as_slice-pieces.result.now = box_read c.args.boxes.now c.loop-index.index c.index-boxes-index.result c.loop-index-test.true c.index-boxes-index.is ∙ sym c.as_slice-pieces.ensures.value in
    let a = c.requires.arrived in
    subst (λ (ps : List Piece). CanLand h ps) box
    (can_take c.args.buffers.now a.0 a.2 a.1 (boxes_of c.args.boxes.now) a.3 c.loop-index.index c.loop-index.buffers c.loop-index.invariant.same (subst (λ (n : ℕ). c.loop-index.index < n) (c.requires.each ∙ sym (length-map c.args.buffers.now known) ∙ ap length (sym c.loop-index.invariant.same) ∙ length-map c.loop-index.buffers known) c.loop-index-test.true) h is (ap (is_met h) box ∙ met))

pub visit-requires-clause-put_in : goal.visit-requires-clause-put_in
visit-requires-clause-put_in g c = λ h is met.
    let box : slice_index_or (boxes_of c.args.boxes.now) c.loop-index.index [] ≡ c.as_slice-pieces.result.now = box_read c.args.boxes.now c.loop-index.index c.index-boxes-index.result c.loop-index-test.true c.index-boxes-index.is ∙ sym c.as_slice-pieces.ensures.value in
    let a = c.requires.arrived in
    subst (λ (ps : List Piece). put_in ps ≤ 2 ^ 27) box
    (few_put_in c.args.buffers.now a.0 a.2 a.1 (boxes_of c.args.boxes.now) a.3 c.loop-index.index c.loop-index.buffers c.loop-index.invariant.same (subst (λ (n : ℕ). c.loop-index.index < n) (c.requires.each ∙ sym (length-map c.args.buffers.now known) ∙ ap length (sym c.loop-index.invariant.same) ∙ length-map c.loop-index.buffers known) c.loop-index-test.true) h is (ap (is_met h) box ∙ met))

pub returns-in_err-long-clause-landed : goal.returns-in_err-long-clause-landed
returns-in_err-long-clause-landed g c = λ graph pending on arrived.
    let box : slice_index_or (boxes_of c.args.boxes.now) c.loop-index.index [] ≡ c.as_slice-pieces.result.now = box_read c.args.boxes.now c.loop-index.index c.index-boxes-index.result c.loop-index-test.true c.index-boxes-index.is ∙ sym c.as_slice-pieces.ensures.value in
    handed _ _ (landing_fault (hook_table c.args.hooks.now) (stock c.args.buffers.now) pending) c.from_residual.result c.in_err-long.field-0.0 c.from_residual.ensures
    (c.in_err-long.ensures.on c.args.buffers.now graph pending (boxes_of c.args.boxes.now) on arrived box (c.loop-index.invariant.going graph pending on arrived))

pub loop-index-preserved : goal.loop-index-preserved
loop-index-preserved g c = record {
  same = c.visit.ensures.same ∙ c.loop-index.invariant.same;
  below = (let l : c.loop-index.index < length c.args.boxes.now = c.loop-index-test.true in omega (arith, l));
  seen = c.in_ok-long.ensures.seen;
  going = λ graph pending on arrived.
      let box : slice_index_or (boxes_of c.args.boxes.now) c.loop-index.index [] ≡ c.as_slice-pieces.result.now = box_read c.args.boxes.now c.loop-index.index c.index-boxes-index.result c.loop-index-test.true c.index-boxes-index.is ∙ sym c.as_slice-pieces.ensures.value in
      c.in_ok-long.ensures.on c.args.buffers.now graph pending (boxes_of c.args.boxes.now) on arrived box (c.loop-index.invariant.going graph pending on arrived);
}

pub returns-in-Some-clause-landed : goal.returns-in-Some-clause-landed
returns-in-Some-clause-landed g c = λ graph pending on arrived.
    ends_long (hook_table c.args.hooks.now) c.args.buffers.now graph on pending c.loop-index.buffers c.loop-index.moves.items c.in-Some.count
    (all_seen (hook_table c.args.hooks.now) c.args.buffers.now graph pending (boxes_of c.args.boxes.now) arrived c.loop-index.index _ (sym (length-map c.args.boxes.now _)) c.loop-index.invariant.below c.loop-index-test.false c.loop-index.buffers c.loop-index.moves.items (Some c.in-Some.count)
    (subst (λ (o : Option ℕ). SoFar (hook_table c.args.hooks.now) c.args.buffers.now graph pending c.loop-index.index c.loop-index.buffers c.loop-index.moves.items o) c.in-Some.is (c.loop-index.invariant.going graph pending on arrived)))

pub returns-clause-landed : goal.returns-clause-landed
returns-clause-landed g c = λ graph pending on arrived.
    ends_landed (hook_table c.args.hooks.now) c.args.buffers.now graph on pending c.loop-index.buffers c.loop-index.moves.items
    (all_seen (hook_table c.args.hooks.now) c.args.buffers.now graph pending (boxes_of c.args.boxes.now) arrived c.loop-index.index _ (sym (length-map c.args.boxes.now _)) c.loop-index.invariant.below c.loop-index-test.false c.loop-index.buffers c.loop-index.moves.items None
    (subst (λ (o : Option ℕ). SoFar (hook_table c.args.hooks.now) c.args.buffers.now graph pending c.loop-index.index c.loop-index.buffers c.loop-index.moves.items o) (not_some c.loop-index.long c.in_default.not-Some) (c.loop-index.invariant.going graph pending on arrived)))
