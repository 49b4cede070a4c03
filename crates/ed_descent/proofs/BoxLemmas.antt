-- What stands in boxes into which pieces were put.
use Rattle.std.proofs.Common.{◌≡◌, ◌≢◌, ℕ, zero, suc, ◌+◌, ◌<◌, List, [], ◌∷◌, ◌++◌, length, inl, inr, refl, sym, ap, ◌∙◌, append_assoc, subst, arith}
use Rattle.std.specs.Prelude.{All, fold, replicate, slice_index_or, slice_set, take, Vec}
use Rattle.std.specs.declared.alloc.Global.{Global}
use Rattle.std.proofs.lemmas.Bool.{cases_eq, eq-eqb, ne_eqb}
use Rattle.std.proofs.lemmas.List.{append-nil, flat_map_more, get_or-replicate, get_or-set_other, get_or-set_same, length-map, length-replicate, length-set, map-set, take_more}
use Rattle.std.proofs.lemmas.List.Elements.{All-from_recursion, recursion_from_All}
use Rattle.ed_base.specs.declared.piece.Piece.{Piece}
use Rattle.ed_risen.proofs.Lists.{each_push, fold_append}
use Rattle.ed_stock.specs.Landing.{pieces_at, pieces_of_changes}
use Rattle.ed_descent.specs.Edits.{pieces_of_edits}
use Rattle.ed_descent.specs.InBoxes.{boxes_of, with_piece}
use Rattle.ed_descent.specs.declared.edit.BufferEdit.{BufferEdit}

pub filled_count : (ps : List (ℕ × Piece)) (boxes : List (List Piece)) → length (fold with_piece boxes ps) ≡ length boxes
filled_count [] boxes = refl
filled_count (p ∷ ps) boxes = filled_count ps (with_piece boxes p) ∙ length-set boxes p.0 (slice_index_or boxes p.0 [] ++ p.1 ∷ [])

first_at : (p : ℕ × Piece) (ps : List (ℕ × Piece)) → pieces_at (p ∷ ps) p.0 ≡ p.1 ∷ pieces_at ps p.0
first_at p ps = rw (eq-eqb p.0 p.0 refl) refl

first_aside : (p : ℕ × Piece) (ps : List (ℕ × Piece)) (b : ℕ) → p.0 ≢ b → pieces_at (p ∷ ps) b ≡ pieces_at ps b
first_aside p ps b other = rw (ne_eqb p.0 b other) refl

pub filled_at : (ps : List (ℕ × Piece)) (boxes : List (List Piece)) (b : ℕ) → b < length boxes → slice_index_or (fold with_piece boxes ps) b [] ≡ slice_index_or boxes b [] ++ pieces_at ps b
filled_at [] boxes b there = sym (append-nil (slice_index_or boxes b []))
filled_at (p ∷ ps) boxes b there =
    filled_at ps (with_piece boxes p) b (subst (λ n. b < n) (sym (length-set boxes p.0 (slice_index_or boxes p.0 [] ++ p.1 ∷ []))) there)
    ∙ elim (cases_eq p.0 b) [
      | inl same ↦ subst (λ c. slice_index_or (with_piece boxes p) c [] ++ pieces_at ps c ≡ slice_index_or boxes c [] ++ pieces_at (p ∷ ps) c) same (own (subst (λ c. c < length boxes) (sym same) there))
      | inr other ↦ ap (λ z. z ++ pieces_at ps b) (get_or-set_other boxes p.0 b (slice_index_or boxes p.0 [] ++ p.1 ∷ []) [] (λ e. other (sym e))) ∙ ap (λ z. slice_index_or boxes b [] ++ z) (sym (first_aside p ps b other))
    ]
  where
    own : p.0 < length boxes → slice_index_or (with_piece boxes p) p.0 [] ++ pieces_at ps p.0 ≡ slice_index_or boxes p.0 [] ++ pieces_at (p ∷ ps) p.0
    own at_home =
        ap (λ z. z ++ pieces_at ps p.0) (get_or-set_same boxes p.0 (slice_index_or boxes p.0 [] ++ p.1 ∷ []) [] at_home)
        ∙ append_assoc (slice_index_or boxes p.0 []) (p.1 ∷ []) (pieces_at ps p.0)
        ∙ ap (λ z. slice_index_or boxes p.0 [] ++ z) (sym (first_at p ps))

pub filled_empty : (n : ℕ) (ps : List (ℕ × Piece)) (b : ℕ) → b < n → slice_index_or (fold with_piece (replicate n []) ps) b [] ≡ pieces_at ps b
filled_empty n ps b there =
    filled_at ps (replicate n []) b (subst (λ m. b < m) (sym (length-replicate n [])) there)
    ∙ ap (λ z. z ++ pieces_at ps b) (get_or-replicate n b [] [] there)

-- ---- as the code puts them

item_at : (vs : List (Vec Piece Global)) (b : ℕ) (v : Vec Piece Global) → b < length vs → slice_index_or (boxes_of vs) b [] ≡ (slice_index_or vs b v).items
item_at [] b v there = absurd (omega arith)
item_at (w ∷ vs) zero v there = refl
item_at (w ∷ vs) (suc b) v there = item_at vs b v (omega arith)

-- the items of a box that is read
pub box_read : (vs : List (Vec Piece Global)) (b : ℕ) (v : Vec Piece Global) → b < length vs → v ≡ slice_index_or vs b v → slice_index_or (boxes_of vs) b [] ≡ v.items
box_read vs b v there at = item_at vs b v there ∙ ap (λ (x : Vec Piece Global). x.items) (sym at)

-- one box has one piece more
pub put_is : (vs : List (Vec Piece Global)) (b : ℕ) (v w : Vec Piece Global) (p : Piece) → b < length vs → v ≡ slice_index_or vs b v → w.items ≡ v.items ++ p ∷ [] → boxes_of (slice_set vs b w) ≡ with_piece (boxes_of vs) (b, p)
put_is vs b v w p there at more = map-set (λ (x : Vec Piece Global). x.items) vs b w ∙ ap (slice_set (boxes_of vs) b) (more ∙ ap (λ xs. xs ++ p ∷ []) (sym (box_read vs b v there at)))

-- as many boxes
pub as_many : (vs ws : List (Vec Piece Global)) (ps : List (ℕ × Piece)) → boxes_of ws ≡ fold with_piece (boxes_of vs) ps → length ws ≡ length vs
as_many vs ws ps is = sym (length-map ws (λ x. x.items)) ∙ ap length is ∙ filled_count ps (boxes_of vs) ∙ length-map vs (λ x. x.items)

-- what is put there by edits up to one more
pub edits_more : (edits : List BufferEdit) (k n : ℕ) (e : BufferEdit) (boxes more : List (List Piece)) → k < length edits → e ≡ slice_index_or edits k e → boxes ≡ fold with_piece (replicate n []) (pieces_of_edits (take k edits)) → more ≡ fold with_piece boxes (pieces_of_changes e.buffer e.changes.changes)
    → more ≡ fold with_piece (replicate n []) (pieces_of_edits (take (k + 1) edits))
edits_more edits k n e boxes more there at before is =
    is ∙ ap (λ z. fold with_piece z (pieces_of_changes e.buffer e.changes.changes)) before
    ∙ sym (fold_append with_piece (replicate n []) (pieces_of_edits (take k edits)) (pieces_of_changes e.buffer e.changes.changes))
    ∙ ap (fold with_piece (replicate n [])) (flat_map_more (λ (x : BufferEdit). pieces_of_changes x.buffer x.changes.changes) [] (take k edits) e ∙ ap pieces_of_edits (sym (take_more edits k e there ∙ ap (λ x. take k edits ++ x ∷ []) (sym at))))

pub all_more : {X : Type 0} (P : X → Type 0) (xs : List X) (k : ℕ) (x : X) → k < length xs → x ≡ slice_index_or xs k x → All P (take k xs) → P x → All P (take (k + 1) xs)
all_more P xs k x there at before one =
    subst (All P) (sym (take_more xs k x there ∙ ap (λ y. take k xs ++ y ∷ []) (sym at))) (All-from_recursion P (take k xs ++ x ∷ []) (each_push P (take k xs) x (recursion_from_All P (take k xs) before) one))
