use Rattle.std.proofs.Common.{◌≡◌, ℕ, ◌<◌, ◌∙◌, ◌∷◌, [], ap, length, subst, sym}
use Rattle.std.specs.Prelude.{All, fold}
use Rattle.std.specs.Vec.Iter.{into_iter_items}
use Rattle.std.proofs.lemmas.List.Elements.{All-from_recursion, recursion_from_All}
use Rattle.ed_base.specs.declared.piece.Piece.{Piece}
use Rattle.ed_descent.specs.InBoxes.{boxes_of, with_piece}
use Rattle.ed_descent.proofs.BoxLemmas.{as_many}
use Rattle.ed_descent.proofs.boxes.put_all.Goals as goal

pub loop-buffer-preserved : goal.loop-buffer-preserved
loop-buffer-preserved c =
    let next : into_iter_items c.loop-buffer.buffer-iterator ≡ (c.in-Some.buffer, c.in-Some.piece) ∷ into_iter_items c.next.new.self = c.in-Some.ensures.steps.0 in
    record {
      count = as_many c.loop-buffer.boxes.items c.put.new.boxes.items ((c.in-Some.buffer, c.in-Some.piece) ∷ []) c.in_ok-put.ensures ∙ c.loop-buffer.invariant.count;
      there = All-from_recursion (λ (p : ℕ × Piece). p.0 < length c.args.boxes.now.items) (into_iter_items c.next.new.self) (recursion_from_All (λ (p : ℕ × Piece). p.0 < length c.args.boxes.now.items) ((c.in-Some.buffer, c.in-Some.piece) ∷ into_iter_items c.next.new.self) (subst (All (λ (p : ℕ × Piece). p.0 < length c.args.boxes.now.items)) next c.loop-buffer.invariant.there)).1;
      boxes = ap (λ z. fold with_piece z (into_iter_items c.next.new.self)) c.in_ok-put.ensures ∙ ap (fold with_piece (boxes_of c.loop-buffer.boxes.items)) (sym next) ∙ c.loop-buffer.invariant.boxes;
    }
