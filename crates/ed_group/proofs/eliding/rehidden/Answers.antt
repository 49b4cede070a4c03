use Rattle.std.proofs.Common.{◌≡◌, ◌≢◌, ◌++◌, ℕ, Bool, true, List, [], ◌∷◌, length, map, All, Some, None, refl, sym, ap, ◌∙◌, subst, slice_get}
use Rattle.std.specs.Prelude.{MatchOption}
use Rattle.ed_climb.specs.Climbing.{move_to}
use Rattle.ed_climb.specs.Kept.{IsKept}
use Rattle.ed_climb.proofs.Asked.{got}
use Rattle.ed_climb.proofs.Snapshots.{held_record}
use Rattle.ed_group.specs.Answers.{hidden_fault}
use Rattle.ed_group.proofs.Hiding.{elided_len, elision_is, hidden_lead, nothing_set}
use Rattle.ed_group.proofs.NoMoves.{if_unchanged}
use Rattle.ed_held.specs.Seen.{known, last_of, stock}
use Rattle.ed_held.specs.declared.moves.Move.{Move}
use Rattle.ed_layers.specs.Hidden.{elided}
use Rattle.ed_layers.specs.Records.{Record, elision, is_elision}
use Rattle.ed_spans.specs.SpanSets.{EndsWithin}
use Rattle.ed_stock.specs.Making.{elide_set, flags_of}
use Rattle.ed_stock.specs.Stock.{record_now}
use Rattle.ed_group.proofs.eliding.rehidden.Goals as goal

pub changed_in-requires-clause-hides : goal.changed_in-requires-clause-hides
changed_in-requires-clause-hides c =
    let hs = c.args.buffers.now in
    let kept : IsKept (map known c.args.buffers.now) c.args.graph.now c.requires.kept.0 = c.requires.kept.1 in
    let held : slice_get c.args.buffers.now c.args.buffer ≡ Some c.index-all-buffer.result = got hs hs c.args.buffer c.buffer.inside.0 c.index-all-buffer.result refl c.buffer.view_is c.requires.there c.index-all-buffer.is in
    let last : record_now (stock c.args.buffers.now) c.args.buffer ≡ last_of (known c.index-all-buffer.result).buffer = held_record hs c.args.buffer c.index-all-buffer.result held in
    subst (λ (x : Record). is_elision x ≡ true) last c.requires.hides

pub changed_in-requires-clause-hide : goal.changed_in-requires-clause-hide
changed_in-requires-clause-hide c =
    let hs = c.args.buffers.now in
    let kept : IsKept (map known c.args.buffers.now) c.args.graph.now c.requires.kept.0 = c.requires.kept.1 in
    let held : slice_get c.args.buffers.now c.args.buffer ≡ Some c.index-all-buffer.result = got hs hs c.args.buffer c.buffer.inside.0 c.index-all-buffer.result refl c.buffer.view_is c.requires.there c.index-all-buffer.is in
    let last : record_now (stock c.args.buffers.now) c.args.buffer ≡ last_of (known c.index-all-buffer.result).buffer = held_record hs c.args.buffer c.index-all-buffer.result held in
    subst (λ (x : Record). All (EndsWithin (length (flags_of x))) c.args.hide.now) last c.requires.hide

pub changed_in-requires-clause-show : goal.changed_in-requires-clause-show
changed_in-requires-clause-show c =
    let hs = c.args.buffers.now in
    let kept : IsKept (map known c.args.buffers.now) c.args.graph.now c.requires.kept.0 = c.requires.kept.1 in
    let held : slice_get c.args.buffers.now c.args.buffer ≡ Some c.index-all-buffer.result = got hs hs c.args.buffer c.buffer.inside.0 c.index-all-buffer.result refl c.buffer.view_is c.requires.there c.index-all-buffer.is in
    let last : record_now (stock c.args.buffers.now) c.args.buffer ≡ last_of (known c.index-all-buffer.result).buffer = held_record hs c.args.buffer c.index-all-buffer.result held in
    subst (λ (x : Record). All (EndsWithin (length (flags_of x))) c.args.show.now) last c.requires.show

pub returns-in_default-clause-leads : goal.returns-in_default-clause-leads
returns-in_default-clause-leads c =
    let hs = c.args.buffers.now in
    let kept : IsKept (map known c.args.buffers.now) c.args.graph.now c.requires.kept.0 = c.requires.kept.1 in
    let held : slice_get c.args.buffers.now c.args.buffer ≡ Some c.index-all-buffer.result = got hs hs c.args.buffer c.buffer.inside.0 c.index-all-buffer.result refl c.buffer.view_is c.requires.there c.index-all-buffer.is in
    let last : record_now (stock c.args.buffers.now) c.args.buffer ≡ last_of (known c.index-all-buffer.result).buffer = held_record hs c.args.buffer c.index-all-buffer.result held in
    let is : (flags : List Bool) × (source : ℕ) × (version : ℕ) × (record_now (stock c.args.buffers.now) c.args.buffer ≡ elision flags source version) = elision_is (record_now (stock hs) c.args.buffer) c.requires.hides in
    let were : List Bool = flags_of (last_of (known c.index-all-buffer.result).buffer) in
    let same : were ≡ is.0 = ap flags_of (sym last ∙ is.3) in
    let told : MatchOption c.in_ok-hidden.field-0 (elided were c.args.hide.now c.args.show.now ≡ were) (λ (h : List Bool). (h ≡ elided were c.args.hide.now c.args.show.now) × (were ≢ h)) = c.in_ok-hidden.ensures in
    let none : elided were c.args.hide.now c.args.show.now ≡ were = subst (λ o. MatchOption o (elided were c.args.hide.now c.args.show.now ≡ were) (λ (h : List Bool). (h ≡ elided were c.args.hide.now c.args.show.now) × (were ≢ h))) c.in_default.is told in
    if_unchanged hs c.args.graph.now c.requires.kept.0 kept c.order-order.ensures.levelled c.unchanged.result c.unchanged.ensures (hidden_fault (stock hs) c.args.buffer c.args.hide.now c.args.show.now) (elide_set (stock hs) c.args.buffer c.args.hide.now c.args.show.now)
    (nothing_set hs c.args.graph.now c.requires.kept.0 kept c.order-order.ensures.levelled c.args.buffer c.requires.there is.0 is.1 is.2 is.3 c.args.hide.now c.args.show.now (subst (λ (fs : List Bool). elided fs c.args.hide.now c.args.show.now ≡ fs) same none)) refl

pub begun-requires-clause-size : goal.begun-requires-clause-size
begun-requires-clause-size c =
    let hs = c.args.buffers.now in
    let kept : IsKept (map known c.args.buffers.now) c.args.graph.now c.requires.kept.0 = c.requires.kept.1 in
    let held : slice_get c.args.buffers.now c.args.buffer ≡ Some c.index-all-buffer.result = got hs hs c.args.buffer c.buffer.inside.0 c.index-all-buffer.result refl c.buffer.view_is c.requires.there c.index-all-buffer.is in
    let last : record_now (stock c.args.buffers.now) c.args.buffer ≡ last_of (known c.index-all-buffer.result).buffer = held_record hs c.args.buffer c.index-all-buffer.result held in
    let is : (flags : List Bool) × (source : ℕ) × (version : ℕ) × (record_now (stock c.args.buffers.now) c.args.buffer ≡ elision flags source version) = elision_is (record_now (stock hs) c.args.buffer) c.requires.hides in
    let were : List Bool = flags_of (last_of (known c.index-all-buffer.result).buffer) in
    let same : were ≡ is.0 = ap flags_of (sym last ∙ is.3) in
    let told : MatchOption c.in_ok-hidden.field-0 (elided were c.args.hide.now c.args.show.now ≡ were) (λ (h : List Bool). (h ≡ elided were c.args.hide.now c.args.show.now) × (were ≢ h)) = c.in_ok-hidden.ensures in
    let new : (c.in-Some.hidden ≡ elided were c.args.hide.now c.args.show.now) × (were ≢ c.in-Some.hidden) = subst (λ o. MatchOption o (elided were c.args.hide.now c.args.show.now ≡ were) (λ (h : List Bool). (h ≡ elided were c.args.hide.now c.args.show.now) × (were ≢ h))) c.in-Some.is told in
    ap length new.0 ∙ elided_len were c.args.hide.now c.args.show.now ∙ ap (λ (r : Record). length (flags_of r)) (sym last)

pub returns-clause-leads : goal.returns-clause-leads
returns-clause-leads c =
    let hs = c.args.buffers.now in
    let kept : IsKept (map known c.args.buffers.now) c.args.graph.now c.requires.kept.0 = c.requires.kept.1 in
    let held : slice_get c.args.buffers.now c.args.buffer ≡ Some c.index-all-buffer.result = got hs hs c.args.buffer c.buffer.inside.0 c.index-all-buffer.result refl c.buffer.view_is c.requires.there c.index-all-buffer.is in
    let last : record_now (stock c.args.buffers.now) c.args.buffer ≡ last_of (known c.index-all-buffer.result).buffer = held_record hs c.args.buffer c.index-all-buffer.result held in
    let is : (flags : List Bool) × (source : ℕ) × (version : ℕ) × (record_now (stock c.args.buffers.now) c.args.buffer ≡ elision flags source version) = elision_is (record_now (stock hs) c.args.buffer) c.requires.hides in
    let were : List Bool = flags_of (last_of (known c.index-all-buffer.result).buffer) in
    let same : were ≡ is.0 = ap flags_of (sym last ∙ is.3) in
    let told : MatchOption c.in_ok-hidden.field-0 (elided were c.args.hide.now c.args.show.now ≡ were) (λ (h : List Bool). (h ≡ elided were c.args.hide.now c.args.show.now) × (were ≢ h)) = c.in_ok-hidden.ensures in
    let new : (c.in-Some.hidden ≡ elided were c.args.hide.now c.args.show.now) × (were ≢ c.in-Some.hidden) = subst (λ o. MatchOption o (elided were c.args.hide.now c.args.show.now ≡ were) (λ (h : List Bool). (h ≡ elided were c.args.hide.now c.args.show.now) × (were ≢ h))) c.in-Some.is told in
    let moves : c.add.new.moves.items ≡ move_to c.args.buffer c.in_ok-next.next [] ∷ [] = c.in_ok-add.ensures.moves ∙ ap (λ ts. c.new-moves.result.items ++ move_to c.args.buffer c.in_ok-next.next ts ∷ []) c.empty.ensures ∙ ap (λ (ms : List Move). ms ++ move_to c.args.buffer c.in_ok-next.next [] ∷ []) c.new-moves.ensures.items in
    hidden_lead hs c.args.graph.now c.requires.kept.0 kept c.order-order.ensures.levelled c.args.buffer c.requires.there is.0 is.1 is.2 is.3
    c.in-Some.hidden (ap length new.0 ∙ elided_len were c.args.hide.now c.args.show.now ∙ ap length same)
    c.begun.new.buffers c.in_ok-next.next c.in_ok-next.ensures.begun
    c.args.hide.now c.args.show.now (new.0 ∙ ap (λ (fs : List Bool). elided fs c.args.hide.now c.args.show.now) same) (λ e. new.1 (same ∙ e))
    (λ h there. c.may_turn.ensures h there c.if-not-may_turn.false) _ c.in_ok-share.ensures moves refl c.in_ok-add.ensures.seen
