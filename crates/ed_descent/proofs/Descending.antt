-- The way of edits through all buffers, from the last of the order on.
use Rattle.std.proofs.Common.{◌≡◌, ℕ, ◌+◌, ◌-◌, ◌<◌, ◌≤◌, ◌^◌, Bool, true, false, List, [], ◌∷◌, ◌++◌, length, take, Some, None, refl, sym, ap, ◌∙◌, subst, arith}
use Rattle.std.specs.Prelude.{All, fold, replicate, slice_index_or, sum_by}
use Rattle.std.proofs.lemmas.List.{take_all, take_more}
use Rattle.std.proofs.lemmas.List.Elements.{All-from_recursion, recursion_from_All}
use Rattle.ed_base.specs.declared.piece.Piece.{Piece}
use Rattle.ed_base.specs.declared.refusal.Refusal.{Refusal}
use Rattle.ed_base.specs.Hooks.{HookTable}
use Rattle.ed_layers.specs.Pieces.{arrived}
use Rattle.ed_layers.specs.Records.{is_carrier, members_of}
use Rattle.ed_layers.specs.Sending.{sending_fault}
use Rattle.ed_pieces.specs.Arrivals.{AllWithin}
use Rattle.ed_risen.proofs.Lists.{each_among, fold_append}
use Rattle.ed_risen.proofs.Order.{of_order}
use Rattle.ed_sending.proofs.Lists.SortedParts.{Each}
use Rattle.ed_sending.proofs.Groups.Arrivals.{send}
use Rattle.ed_stock.specs.Landing.{down_fault, pieces_at, sent_down, sent_from}
use Rattle.ed_stock.specs.Stock.{count, graph_order, record_now, text_now}
use Rattle.ed_held.specs.declared.held.Held.{Held}
use Rattle.ed_held.specs.Seen.{stock}
use Rattle.ed_descent.proofs.BoxLemmas.{filled_empty}
use Rattle.ed_descent.proofs.HeldFacts.{count_held}
use Rattle.ed_descent.proofs.OnTheWay.{Goes, arrived_most, back_base, back_carrier, carriers_back, goes_on, lies_at, refused, sets_out}
use Rattle.ed_descent.proofs.UnitSums.{own_at, units_at}
use Rattle.ed_descent.specs.Edits.{IsNormalEdit, own_units, pieces_of_edits, units_of_carriers}
use Rattle.ed_descent.specs.InBoxes.{with_piece}
use Rattle.ed_descent.specs.Sends.{CanPass, CanSend, passing_fault, sent_on}
use Rattle.ed_descent.specs.declared.edit.BufferEdit.{BufferEdit}

-- The boxes hold pieces on their way, and so many buffers of the order are left.
abbrev pub IsOn : HookTable → List Held → List BufferEdit → List ℕ → ℕ → List (List Piece) → Type 0
IsOn hooks hs edits order left boxes = (pending : List (ℕ × Piece)) × (boxes ≡ fold with_piece (replicate (length hs) []) pending) × Goes hooks (stock hs) (pieces_of_edits edits) (units_of_carriers (stock hs) edits) pending (carriers_back (stock hs) (take left order))

pub sets_on : (hooks : HookTable) (hs : List Held) (edits : List BufferEdit) (order : List ℕ) (boxes : List (List Piece)) → order ≡ graph_order (stock hs)
    → All (λ e. e.buffer < count (stock hs)) edits → All (λ e. e.changes.old_len ≡ length (text_now (stock hs) e.buffer)) edits → All IsNormalEdit edits
    → boxes ≡ fold with_piece (replicate (length hs) []) (pieces_of_edits edits) → IsOn hooks hs edits order (length order) boxes
sets_on hooks hs edits order boxes is there from normal filled = (
  pieces_of_edits edits,
  filled,
  subst (Goes hooks (stock hs) (pieces_of_edits edits) (units_of_carriers (stock hs) edits) (pieces_of_edits edits)) (ap (carriers_back (stock hs)) (sym (take_all (length order) order (omega arith) ∙ is)))
      (sets_out hooks (stock hs) edits
      (recursion_from_All (λ (e : BufferEdit). e.buffer < count (stock hs)) edits there)
      (recursion_from_All (λ (e : BufferEdit). e.changes.old_len ≡ length (text_now (stock hs) e.buffer)) edits from)
      (recursion_from_All IsNormalEdit edits normal)),
)

module _ (hooks : HookTable) (hs : List Held) (can : CanSend hs) (edits : List BufferEdit) (order : List ℕ) (is : order ≡ graph_order (stock hs)) where
  -- one buffer more
  module _ (left : ℕ) (some : 0 < left) (within : left ≤ length order) (c : ℕ) (at : c ≡ slice_index_or order (left - 1) c) (boxes : List (List Piece)) (on : IsOn hooks hs edits order left boxes) where
    abbrev box : List Piece
    box = slice_index_or boxes c []

    last_is : take left order ≡ take (left - 1) order ++ c ∷ []
    last_is =
        ap (λ n. take n order) (let e : left ≡ left - 1 + 1 = omega arith in e)
        ∙ take_more order (left - 1) c (omega arith)
        ∙ ap (λ x. take (left - 1) order ++ x ∷ []) (sym at)

    in_stock : c < count (stock hs)
    in_stock = subst (λ x. x < count (stock hs)) (sym at) (All-from_recursion (λ x. x < count (stock hs)) order (subst (λ xs. Each (λ x. x < count (stock hs)) xs) (sym is) (each_among (λ x. x < count (stock hs)) (graph_order (stock hs)) (of_order (stock hs)))) (left - 1) c (omega arith))

    pub is_there : c < length hs
    is_there = subst (λ n. c < n) (count_held hs) in_stock

    box_is : box ≡ pieces_at on.0 c
    box_is = ap (λ bs. slice_index_or bs c []) on.1 ∙ filled_empty (length hs) on.0 c is_there

    goes_back : (cs : List ℕ) → carriers_back (stock hs) (take (left - 1) order ++ c ∷ []) ≡ cs → Goes hooks (stock hs) (pieces_of_edits edits) (units_of_carriers (stock hs) edits) on.0 cs
    goes_back cs same = subst (Goes hooks (stock hs) (pieces_of_edits edits) (units_of_carriers (stock hs) edits) on.0) (ap (carriers_back (stock hs)) last_is ∙ same) on.2

    goes_here : is_carrier (record_now (stock hs) c) ≡ true → Goes hooks (stock hs) (pieces_of_edits edits) (units_of_carriers (stock hs) edits) on.0 (c ∷ carriers_back (stock hs) (take (left - 1) order))
    goes_here carries = goes_back (c ∷ carriers_back (stock hs) (take (left - 1) order)) (back_carrier (stock hs) (take (left - 1) order) c carries)

    -- what its pass requires
    pub can_pass : units_of_carriers (stock hs) edits ≤ 2 ^ 22 → CanPass (stock hs) c box
    can_pass few = subst (CanPass (stock hs) c) (sym box_is) (record {
      within = All-from_recursion (λ (p : Piece). p.start + p.len ≤ length (text_now (stock hs) c)) (pieces_at on.0 c) (lies_at (stock hs) on.0 c on.2.inside);
      put_in = λ carries. (let l : units_at on.0 c ≤ units_of_carriers (stock hs) edits = arrived_most hooks (stock hs) can.ready (pieces_of_edits edits) (units_of_carriers (stock hs) edits) on.0 c (carriers_back (stock hs) (take (left - 1) order)) (goes_here carries) in omega (arith, l, few));
    })

    fault_is : is_carrier (record_now (stock hs) c) ≡ true → passing_fault (stock hs) c box ≡ sending_fault c (members_of (record_now (stock hs) c)) (arrived (pieces_at on.0 c) (length (text_now (stock hs) c)))
    fault_is carries = ap (passing_fault (stock hs) c) box_is ∙ (rw carries refl)

    sends_box : is_carrier (record_now (stock hs) c) ≡ true → sent_on hooks (stock hs) c box ≡ send hooks (stock hs) c (pieces_at on.0 c)
    sends_box carries = ap (sent_on hooks (stock hs) c) box_is ∙ (rw carries refl)

    sends_nothing : is_carrier (record_now (stock hs) c) ≡ false → sent_on hooks (stock hs) c box ≡ []
    sends_nothing bare = rw bare refl

    no_fault : is_carrier (record_now (stock hs) c) ≡ false → passing_fault (stock hs) c box ≡ None
    no_fault bare = rw bare refl

    -- where it refuses
    pub refuses : (r : Refusal) → passing_fault (stock hs) c box ≡ Some r → down_fault hooks (stock hs) (pieces_of_edits edits) ≡ Some r
    refuses r fault = by (is_carrier (record_now (stock hs) c)) refl
      where
        by : (z : Bool) → is_carrier (record_now (stock hs) c) ≡ z → down_fault hooks (stock hs) (pieces_of_edits edits) ≡ Some r
        by true carries = refused hooks (stock hs) can.ready (pieces_of_edits edits) (units_of_carriers (stock hs) edits) on.0 c (carriers_back (stock hs) (take (left - 1) order)) (goes_here carries) r (sym (fault_is carries) ∙ fault)
        by false bare = absurd (let e : None ≡ Some r = sym (no_fault bare) ∙ fault in cc)

    -- where it sends on
    pub passed : (new : List (List Piece)) → passing_fault (stock hs) c box ≡ None → new ≡ fold with_piece boxes (sent_on hooks (stock hs) c box) → IsOn hooks hs edits order (left - 1) new
    passed new none filled = by (is_carrier (record_now (stock hs) c)) refl
      where
        by : (z : Bool) → is_carrier (record_now (stock hs) c) ≡ z → IsOn hooks hs edits order (left - 1) new
        by true carries = (
          sent_from hooks (stock hs) on.0 c,
          filled ∙ ap (fold with_piece boxes) (sends_box carries) ∙ ap (λ bs. fold with_piece bs (send hooks (stock hs) c (pieces_at on.0 c))) on.1 ∙ sym (fold_append with_piece (replicate (length hs) []) on.0 (send hooks (stock hs) c (pieces_at on.0 c))),
          goes_on hooks (stock hs) can.ready (pieces_of_edits edits) (units_of_carriers (stock hs) edits) on.0 c (carriers_back (stock hs) (take (left - 1) order)) (goes_here carries) (sym (fault_is carries) ∙ none),
        )
        by false bare = (
          on.0,
          filled ∙ ap (fold with_piece boxes) (sends_nothing bare) ∙ on.1,
          goes_back (carriers_back (stock hs) (take (left - 1) order)) (back_base (stock hs) (take (left - 1) order) c bare),
        )

  -- all buffers are done
  module _ (left : ℕ) (done : left ≤ 0) (boxes : List (List Piece)) (on : IsOn hooks hs edits order left boxes) where
    goes_last : Goes hooks (stock hs) (pieces_of_edits edits) (units_of_carriers (stock hs) edits) on.0 []
    goes_last = subst (λ n. Goes hooks (stock hs) (pieces_of_edits edits) (units_of_carriers (stock hs) edits) on.0 (carriers_back (stock hs) (take n order))) (let e : left ≡ 0 = omega arith in e) on.2

    pub none_refused : down_fault hooks (stock hs) (pieces_of_edits edits) ≡ None
    none_refused = sym goes_last.fault

    box_last : (b : ℕ) → b < count (stock hs) → slice_index_or boxes b [] ≡ pieces_at on.0 b
    box_last b there = ap (λ bs. slice_index_or bs b []) on.1 ∙ filled_empty (length hs) on.0 b (subst (λ n. b < n) (count_held hs) there)

    pub pieces_are : (b : ℕ) → b < count (stock hs) → slice_index_or boxes b [] ≡ pieces_at (sent_down hooks (stock hs) (pieces_of_edits edits)) b
    pieces_are b there = box_last b there ∙ ap (λ ps. pieces_at ps b) goes_last.same

    pub pieces_inside : (b : ℕ) → b < count (stock hs) → AllWithin (length (text_now (stock hs) b)) (slice_index_or boxes b [])
    pieces_inside b there = subst (AllWithin (length (text_now (stock hs) b))) (sym (box_last b there)) (All-from_recursion (λ (p : Piece). p.start + p.len ≤ length (text_now (stock hs) b)) (pieces_at on.0 b) (lies_at (stock hs) on.0 b goes_last.inside))

    pub pieces_put_in : (b : ℕ) → b < count (stock hs) → is_carrier (record_now (stock hs) b) ≡ false → sum_by (λ p. length p.text) (slice_index_or boxes b []) ≤ own_units edits b + units_of_carriers (stock hs) edits
    pieces_put_in b there bare =
        subst (λ ps. sum_by (λ (p : Piece). length p.text) ps ≤ own_units edits b + units_of_carriers (stock hs) edits) (sym (box_last b there))
        (subst (λ n. units_at on.0 b ≤ n + units_of_carriers (stock hs) edits) (own_at edits b) (let l : units_at on.0 b + 0 ≤ units_at (pieces_of_edits edits) b + units_of_carriers (stock hs) edits = goes_last.based b bare in omega (arith, l)))
