-- Typed text is the edit itself: where each buffer below the edited one gets from one carrier alone, the edited buffer's new text is the edit of its old one.
use Rattle.std.proofs.Common.{◌≡◌, ℕ, ◌<◌, List, length, None, ap, ◌∙◌, subst}
use Rattle.ed_base.specs.declared.edit.Replace.{Replace}
use Rattle.ed_base.specs.declared.piece.Piece.{Piece}
use Rattle.ed_base.specs.ChangeList.{AreNormalFrom, ChangeList, applied, normal_form}
use Rattle.ed_base.specs.Edit.{edited}
use Rattle.ed_base.specs.Hooks.{HookTable}
use Rattle.ed_stock.specs.Stock.{Stock, count, text_now}
use Rattle.ed_stock.specs.Versions.{Rising, none_given}
use Rattle.ed_stock.specs.Landing.{down_fault, landed, pieces_at, pieces_of_changes, pieces_of_edit, sent_down}
use Rattle.ed_sending.specs.OneCarrierEach.{HasOneCarrierEach}
use Rattle.ed_sending.proofs.Texts.NormalForm.{form_applied}
use Rattle.ed_sending.proofs.Groups.AcceptedEdit.{IsOneWay, typed_text, units_marked}
use Rattle.ed_sending.proofs.Groups.Arrivals.{changes_plain}
use Rattle.ed_sending.proofs.Groups.LandedSteps.{landed_is}
use Rattle.ed_sending.proofs.Groups.OneWay.{IsAtOrBelow, top_reached, top_alone, source_alone}
use Rattle.ed_sending.proofs.Groups.OwnPieces.{all_own, own_text}
use Rattle.ed_sending.specs.Ready.{AreShown, IsReady, NamesLower}

-- ---- typed text

-- the stock once an edit's pieces have landed
abbrev pub stock_after : HookTable → Stock → List (ℕ × Piece) → Stock
stock_after hooks s start = (landed s (sent_down hooks s start) none_given none_given).stock

module _ (hooks : HookTable) (s : Stock) (ready : IsReady s) (low : NamesLower s) (top : ℕ) (there : top < count s) (c : ChangeList) (accepted : down_fault hooks s (pieces_of_changes top c.changes) ≡ None) where
  abbrev start : List (ℕ × Piece)
  start = pieces_of_changes top c.changes

  one_way : HasOneCarrierEach s top → IsOneWay hooks s ready start (changes_plain top c.changes) accepted none_given top (IsAtOrBelow hooks s ready low top there start (all_own top c.changes))
  one_way one = record {
    top_below = (there, top_reached hooks s ready low top there start (all_own top c.changes));
    top_own = λ e. top_alone hooks s ready low top there start (all_own top c.changes) e;
    inside = λ b below. below.0;
    sources = λ b below d among. source_alone hooks s ready low top there start (all_own top c.changes) one b below d among;
  }

  -- The new text of the edited buffer is what the changes lead to, whatever they are.
  pub typed_changes : HasOneCarrierEach s top → AreShown (stock_after hooks s start) → text_now (stock_after hooks s start) top ≡ applied c (text_now s top)
  typed_changes one shown =
      ap (λ (r : Rising). text_now r.stock top) (landed_is s (sent_down hooks s start) none_given)
      ∙ typed_text hooks s ready start (changes_plain top c.changes) accepted none_given top (IsAtOrBelow hooks s ready low top there start (all_own top c.changes)) (one_way one)
      (subst (λ (r : Rising). AreShown r.stock) (landed_is s (sent_down hooks s start) none_given) shown)
      ∙ units_marked (pieces_at start top) (text_now s top)
      ∙ own_text top c (text_now s top)

-- So it is for a change list of its text.
pub typed_edit : (hooks : HookTable) (s : Stock) (ready : IsReady s) (low : NamesLower s) (top : ℕ) (there : top < count s) (c : ChangeList)
    → AreNormalFrom 0 c.old_len c.changes → c.old_len ≡ length (text_now s top)
    → HasOneCarrierEach s top → down_fault hooks s (pieces_of_changes top c.changes) ≡ None
    → AreShown (stock_after hooks s (pieces_of_changes top c.changes))
    → text_now (stock_after hooks s (pieces_of_changes top c.changes)) top ≡ applied c (text_now s top)
typed_edit hooks s ready low top there c normal from one accepted shown = typed_changes hooks s ready low top there c accepted one shown

-- And in the words of an edit: the new text is the edited one.
pub typed_replaces : (hooks : HookTable) (s : Stock) (ready : IsReady s) (low : NamesLower s) (top : ℕ) (there : top < count s) (replaces : List Replace)
    → HasOneCarrierEach s top → down_fault hooks s (pieces_of_edit s top replaces) ≡ None
    → AreShown (stock_after hooks s (pieces_of_edit s top replaces))
    → text_now (stock_after hooks s (pieces_of_edit s top replaces)) top ≡ edited replaces (text_now s top)
typed_replaces hooks s ready low top there replaces one accepted shown =
    typed_changes hooks s ready low top there (normal_form replaces (length (text_now s top))) accepted one shown ∙ form_applied replaces (text_now s top)
