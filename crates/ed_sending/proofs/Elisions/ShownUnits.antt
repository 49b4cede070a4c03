-- What an elision buffer shows of its source's new text is its old text with what arrived.
use Rattle.std.proofs.Common.{◌≡◌, ℕ, zero, suc, ◌+◌, ◌<◌, ◌≤◌, Bool, true, false, ◌&&◌, ◌||◌, List, [], ◌∷◌, length, map, filter, Option, Some, None, inl, inr, refl, sym, ap, ◌∙◌, arith, subst}
use Rattle.std.specs.Prelude.{nat_eq, nat_le, nat_lt, slice_get, position, option_and_then}
use Rattle.std.specs.List.{range_with_len, list_any}
use Rattle.std.proofs.lemmas.Bool.{cases_eq, eqb-true}
use Rattle.std.proofs.lemmas.List.Folds.{list_any-append}
use Rattle.std.proofs.lemmas.Map.Views.{any-filter_same}
use Rattle.std.proofs.lemmas.Bool.Decides.{nat_tests}
use Rattle.ed_base.specs.declared.edit.Span.{Span}
use Rattle.ed_base.specs.declared.mode.SpanMode.{SpanMode}
use Rattle.ed_base.specs.declared.piece.Member.{Member}
use Rattle.ed_base.specs.declared.piece.Piece.{Piece}
use Rattle.ed_base.specs.Hooks.{CutRules}
use Rattle.ed_base.specs.Numbers.{places}
use Rattle.ed_base.specs.Runs.{runs}
use Rattle.ed_base.specs.Spans.{end_of, holds_place}
use Rattle.ed_layers.specs.CarrierStep.{is_same_slot}
use Rattle.ed_layers.specs.Order.{is_inclusive}
use Rattle.ed_layers.specs.Pieces.{Component, put_at, gone_at}
use Rattle.ed_layers.specs.Records.{tracked, is_shown}
use Rattle.ed_layers.specs.Sending.{sent}
use Rattle.ed_layers.specs.SourceStep.{ends_with, trail_above}
use Rattle.ed_stock.specs.Landing.{pieces_at}
use Rattle.ed_sending.proofs.Lists.SortedParts.{Each, each_got, each_more}
use Rattle.ed_sending.proofs.Texts.FullText.{old_units, put_in, full_text, get_map}
use Rattle.ed_sending.proofs.Members.SourceParts.{IsFor, ends_last, put_each, woven_each, old_each}
use Rattle.ed_sending.proofs.Members.MemberZone.{put_in_each}
use Rattle.ed_sending.proofs.Carriers.SentPieces.{all_for}
use Rattle.ed_sending.proofs.Carriers.SlotPlaces.{slot_of}
use Rattle.ed_sending.proofs.Shared.SourceSigns.{Sign, sign_of, ends_at, ends_any}
use Rattle.ed_sending.proofs.Elisions.InLine.{some_holds, all_held, held_in_line, AreFrom, filter_each_alike}
use Rattle.ed_risen.proofs.Runs.{AreInLine, places_of, runs_places, runs_in_line, runs_end}
use Rattle.ed_sending.proofs.Elisions.ShownMembers.{spans_line, spans_apart, get_tracked}
use Rattle.ed_sending.specs.Ready.{AreFitting}

-- ---- whether a place is in one of the spans

among_range : (o a m : ℕ) → list_any (λ x. nat_eq o x) (range_with_len a m) ≡ (nat_le a o && nat_lt o (a + m))
among_range o a zero = let e : (nat_le a o && nat_lt o (a + 0)) ≡ false = grind (arith, nat_tests) in sym e
among_range o a (suc m) = elim (cases_eq o a) [
  | inl same ↦ (let e : nat_eq o a ≡ true = grind (arith, nat_tests) in let f : (nat_le a o && nat_lt o (a + suc m)) ≡ true = grind (arith, nat_tests) in let g : (nat_eq o a || list_any (λ x. nat_eq o x) (range_with_len (a + 1) m)) ≡ true = rw e refl in g ∙ sym f)
  | inr other ↦ (let e : nat_eq o a ≡ false = grind (arith, nat_tests) in
      let f : (nat_le (a + 1) o && nat_lt o (a + 1 + m)) ≡ (nat_le a o && nat_lt o (a + suc m)) = grind (arith, nat_tests) in
      let g : (nat_eq o a || list_any (λ x. nat_eq o x) (range_with_len (a + 1) m)) ≡ list_any (λ x. nat_eq o x) (range_with_len (a + 1) m) = rw e refl in
      g ∙ among_range o (a + 1) m ∙ f)
]

among_spans : (o : ℕ) (xs : List Span) → list_any (λ x. nat_eq o x) (places_of xs) ≡ list_any (λ x. holds_place x o) xs
among_spans o [] = refl
among_spans o (x ∷ xs) = list_any-append (λ x. nat_eq o x) (range_with_len x.start x.len) (places_of xs) ∙ ap (λ b. b || list_any (λ x. nat_eq o x) (places_of xs)) (among_range o x.start x.len) ∙ ap (λ b. holds_place x o || b) (among_spans o xs)

pub among_filter : (test : ℕ → Bool) (o : ℕ) (xs : List ℕ) → list_any (λ x. nat_eq o x) (filter test xs) ≡ (test o && list_any (λ x. nat_eq o x) xs)
among_filter test o xs = any-filter_same (λ x. nat_eq o x) test (test o) (λ x e. ap test (sym (eqb-true o x e))) xs

-- ---- the buffer

-- whether the buffer shows the unit: it was shown, or it is its own
abbrev pub shows_sign : ℕ → List Bool → Sign → Bool
shows_sign carrier flags (Some o, way) = is_shown flags o || ends_at carrier way
shows_sign carrier flags (None, way) = ends_at carrier way

-- the unit as the buffer has it
abbrev pub ranked : ℕ → ℕ → List Bool → Sign → Sign
ranked carrier source flags f = (option_and_then (λ o. position (is_same_slot (slot_of 0 (Some source) o)) (map (slot_of 0 (Some source)) (filter (is_shown flags) (places (length flags))))) f.0, trail_above carrier (λ i. true) f.1)

module _ (carrier source : ℕ) (flags : List Bool) (resolver : Option CutRules) (cs : List Component) (texts : ℕ → List ℕ) (size : length (texts source) ≡ length flags) where
  abbrev spans : List Span
  spans = runs (is_shown flags) (length flags)

  abbrev pub shown_members : List Member
  shown_members = map (tracked source) (runs (is_shown flags) (length flags))

  spans_are_apart : AreInLine spans
  spans_are_apart = runs_in_line (is_shown flags) (length flags)

  pub elision_fits : AreFitting shown_members texts
  elision_fits = record {
    apart = λ b. spans_apart spans spans_are_apart source b;
    inside = λ k b x mode at. (let g : (slice_get spans k ≡ Some x) × (b ≡ source) × (mode ≡ SpanMode.EdgeExclusive) = get_tracked source k spans b x mode at in
        let e : end_of x ≤ length flags = each_got (λ (z : Span). end_of z ≤ length flags) spans k x (runs_end (is_shown flags) (length flags)) g.0 in
        subst (λ n. end_of x ≤ n) (sym (ap (λ z. length (texts z)) g.1 ∙ size)) e);
    covers = λ k b x mode at inclusive. absurd (let g : (slice_get spans k ≡ Some x) × (b ≡ source) × (mode ≡ SpanMode.EdgeExclusive) = get_tracked source k spans b x mode at in let e : false ≡ true = sym (ap is_inclusive g.2) ∙ inclusive in cc);
    alone = λ k j b x y mode mode' at inclusive bt. absurd (let g : (slice_get spans k ≡ Some x) × (b ≡ source) × (mode ≡ SpanMode.EdgeExclusive) = get_tracked source k spans b x mode at in let e : false ≡ true = sym (ap is_inclusive g.2) ∙ inclusive in cc);
  }

  abbrev own : List Piece
  own = pieces_at (sent carrier shown_members resolver cs) source

  -- what the buffer shows, some member holds
  kept_shown : (xs : List Span) (k o u : ℕ) → some_holds carrier k xs (Some o, (u, [])) ≡ list_any (λ x. holds_place x o) xs
  kept_shown [] k o u = refl
  kept_shown (x ∷ xs) k o u = either (holds_place x o) (kept_shown xs (k + 1) o u)
    where
      either : (b : Bool) → some_holds carrier (k + 1) xs (Some o, (u, [])) ≡ list_any (λ x. holds_place x o) xs → ((b || false) || some_holds carrier (k + 1) xs (Some o, (u, []))) ≡ (b || list_any (λ x. holds_place x o) xs)
      either true rest = refl
      either false rest = rest

  shown_kept : (o u : ℕ) → o < length flags → is_shown flags o ≡ some_holds carrier 0 spans (Some o, (u, []))
  shown_kept o u below =
      let in_ : (nat_le 0 o && nat_lt o (0 + length flags)) ≡ true = grind (arith, nat_tests) in
      let a : list_any (λ x. nat_eq o x) (filter (is_shown flags) (places (length flags))) ≡ (is_shown flags o && true) = among_filter (is_shown flags) o (places (length flags)) ∙ ap (λ z. is_shown flags o && z) (among_range o 0 (length flags) ∙ in_) in
      let b : list_any (λ x. nat_eq o x) (filter (is_shown flags) (places (length flags))) ≡ list_any (λ x. holds_place x o) spans = ap (λ z. list_any (λ x. nat_eq o x) z) (runs_places (is_shown flags) (length flags)) ∙ among_spans o spans in
      sym (and_true (is_shown flags o)) ∙ sym a ∙ b ∙ sym (kept_shown spans 0 o u)
    where
      and_true : (b : Bool) → (b && true) ≡ b
      and_true true = refl
      and_true false = refl

  put_shown : (xs : List Span) (k d : ℕ) (x : Span) (m : ℕ × List (ℕ × ℕ)) → slice_get xs d ≡ Some x → ends_with carrier (nat_eq (k + d)) m.1 ≡ true → some_holds carrier k xs (None, m) ≡ true
  put_shown [] k d x m at ends = absurd (let e : None ≡ Some x = at in cc)
  put_shown (y ∷ ys) k zero x m at ends = let e : ends_with carrier (nat_eq k) m.1 ≡ true = ap (λ n. ends_with carrier (nat_eq n) m.1) (let f : k ≡ k + 0 = omega arith in f) ∙ ends in (rw e refl)
  put_shown (y ∷ ys) k (suc d) x m at ends = or_right (ends_with carrier (nat_eq k) m.1) (some_holds carrier (k + 1) ys (None, m)) (put_shown ys (k + 1) d x m at (ap (λ n. ends_with carrier (nat_eq n) m.1) (let f : k + 1 + d ≡ k + suc d = omega arith in f) ∙ ends))
    where
      or_right : (a b : Bool) → b ≡ true → (a || b) ≡ true
      or_right true b e = refl
      or_right false b e = e

  full_same : Each (λ f. shows_sign carrier flags (sign_of f) ≡ some_holds carrier 0 spans f) (full_text own (texts source))
  full_same = woven_each (λ f. shows_sign carrier flags (sign_of f) ≡ some_holds carrier 0 spans f) (λ g. map put_in (put_at own g)) (gone_at own) 0 (old_units 0 (texts source))
      (λ q. put_in_each (λ f. shows_sign carrier flags (sign_of f) ≡ some_holds carrier 0 spans f) (put_at own q) (put_each (λ m. ends_at carrier m.1 ≡ some_holds carrier 0 spans (None, m)) own q
      (each_more (IsFor carrier shown_members source) (λ p. (u : ℕ) → ends_at carrier p.trail ≡ some_holds carrier 0 spans (None, (u, p.trail))) own (λ p h u. one p h u) (all_for carrier shown_members resolver source cs))))
      (old_each (λ f. shows_sign carrier flags (sign_of f) ≡ some_holds carrier 0 spans f) 0 (texts source) (λ q u above below. or_false (is_shown flags q) ∙ shown_kept q u (omega (arith, size))))
    where
      or_false : (b : Bool) → (b || false) ≡ b
      or_false true = refl
      or_false false = refl

      one : (p : Piece) → IsFor carrier shown_members source p → (u : ℕ) → ends_at carrier p.trail ≡ some_holds carrier 0 spans (None, (u, p.trail))
      one p h u =
          let c : nat_eq carrier carrier ≡ true = grind (arith, nat_tests) in
          let i : nat_eq h.member h.member ≡ true = grind (arith, nat_tests) in
          let ends : ends_with carrier (nat_eq h.member) p.trail ≡ true = ends_last carrier (nat_eq h.member) p.trail (carrier, h.member) h.last ∙ (rw (c, i) refl) in
          ends_any carrier (nat_eq h.member) p.trail ends
          ∙ sym (put_shown spans 0 h.member h.bounds (u, p.trail) (get_tracked source h.member spans source h.bounds h.mode h.there).0 (ap (λ n. ends_with carrier (nat_eq n) p.trail) (let f : 0 + h.member ≡ h.member = omega arith in f) ∙ ends))

  are_from : (k : ℕ) (xs : List Span) → ((d : ℕ) → slice_get xs d ≡ slice_get spans (k + d)) → AreFrom carrier shown_members source (spans_apart spans spans_are_apart source source) own (all_for carrier shown_members resolver source cs) (texts source) (λ k x mode at. elision_fits.inside k source x mode at) (λ h i w x mode mode' less at bt. spans_line spans spans_are_apart source source h i w x mode mode' less at bt) k xs
  are_from k [] same = tt
  are_from k (x ∷ xs) same = ((SpanMode.EdgeExclusive, get_map (tracked source) spans k x (ap (slice_get spans) (let e : k ≡ k + 0 = omega arith in e) ∙ sym (same 0))), are_from (k + 1) xs (λ d. same (suc d) ∙ ap (slice_get spans) (let e : k + suc d ≡ (k + 1) + d = omega arith in e)))

  -- What is shown of the source's new text is what the members hold of it, one after another.
  pub shown_in_line : filter (λ f. shows_sign carrier flags (sign_of f)) (full_text own (texts source)) ≡ all_held carrier 0 spans (full_text own (texts source))
  shown_in_line =
      filter_each_alike (λ f. shows_sign carrier flags (sign_of f)) (some_holds carrier 0 spans) (full_text own (texts source)) full_same
      ∙ held_in_line carrier shown_members source (spans_apart spans spans_are_apart source source) own (all_for carrier shown_members resolver source cs) (texts source) (λ k x mode at. elision_fits.inside k source x mode at) (λ h i w x mode mode' less at bt. spans_line spans spans_are_apart source source h i w x mode mode' less at bt) 0 spans (are_from 0 spans (λ d. ap (slice_get spans) (let e : d ≡ 0 + d = omega arith in e)))
