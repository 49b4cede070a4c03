-- Where a source's new text is cut by a member: its own stands behind all that is kept before it, and before all that is kept behind it; and what it holds stands behind what an earlier member holds.
use Rattle.std.proofs.Common.{◌≡◌, ◌≢◌, ℕ, ◌+◌, ◌<◌, ◌≤◌, Bool, true, false, ◌||◌, List, [], ◌∷◌, ◌++◌, length, map, Option, Some, None, inl, inr, refl, sym, ap, ◌∙◌, arith, subst}
use Rattle.std.specs.Prelude.{slice_get, nat_eq}
use Rattle.std.proofs.lemmas.Bool.{cases_eq}
use Rattle.std.proofs.lemmas.Bool.Decides.{nat_tests}
use Rattle.ed_base.specs.declared.edit.Span.{Span}
use Rattle.ed_base.specs.declared.mode.SpanMode.{SpanMode}
use Rattle.ed_base.specs.declared.piece.Member.{Member}
use Rattle.ed_base.specs.declared.piece.Piece.{Piece}
use Rattle.ed_base.specs.Spans.{end_of, holds_place}
use Rattle.ed_layers.specs.Pieces.{put_at, gone_at}
use Rattle.ed_layers.specs.Order.{stands_before}
use Rattle.ed_layers.specs.SourceStep.{ends_with}
use Rattle.ed_sending.proofs.Lists.SortedParts.{Each, each_append, each_more, not_false}
use Rattle.ed_sending.proofs.Texts.FullText.{Full, old_units, put_in, full_text, held_by}
use Rattle.ed_sending.proofs.Texts.GapOrder.{Stands, stands_so}
use Rattle.ed_sending.proofs.Members.SourceParts.{IsFor, is_first, first_is, of_is, earlier_of, own_of, later_of, own_each, later_each, Own, Later, put_each, woven_each, old_each}
use Rattle.ed_sending.proofs.Members.MemberZone.{zone_of, put_in_each, Mine, Held, earlier_part, later_part, three_parts, earlier_held, later_held, zone_lies}
use Rattle.ed_sending.proofs.Lists.Subsequences.{Cut, cut_parts}
use Rattle.ed_sending.specs.Ready.{AreApart}

not_own : (a b : Bool) → (a || b) ≡ false → b ≡ false
not_own true b e = absurd (let z : true ≡ false = e in cc)
not_own false b e = e

none_kept : (P : ℕ → Type 0) (ms : List (ℕ × List (ℕ × ℕ))) → Each (λ f. (o : ℕ) → f.0 ≡ Some o → P o) (map put_in ms)
none_kept P [] = tt
none_kept P (m ∷ ms) = ((λ o e. absurd (let z : None ≡ Some o = e in cc)), none_kept P ms)

module _ (carrier : ℕ) (members : List Member) (source : ℕ) (i : ℕ) (x : Span) (mode : SpanMode) (here : slice_get members i ≡ Some (Member.Tracked source x mode)) (apart : AreApart members source) where
  earlier_lies : (pieces : List Piece) (xs : List ℕ) → length xs ≡ x.start → Each (λ f. (o : ℕ) → f.0 ≡ Some o → o < x.start) (earlier_part carrier members source i x mode here apart pieces xs)
  earlier_lies pieces xs ex = woven_each (λ f. (o : ℕ) → f.0 ≡ Some o → o < x.start) (λ g. map put_in (put_at (earlier_of members i x pieces) g)) (gone_at pieces) 0 (old_units 0 xs)
      (λ q. none_kept (λ o. o < x.start) (put_at (earlier_of members i x pieces) q))
      (old_each (λ f. (o : ℕ) → f.0 ≡ Some o → o < x.start) 0 xs (λ q u above below o e. (let f : q ≡ o = cc in omega arith)))

  later_lies : (pieces : List Piece) (zs : List ℕ) → Each (λ f. (o : ℕ) → f.0 ≡ Some o → end_of x ≤ o) (later_part carrier members source i x mode here apart pieces zs)
  later_lies pieces zs = woven_each (λ f. (o : ℕ) → f.0 ≡ Some o → end_of x ≤ o) (λ g. map put_in (put_at (later_of carrier members i x pieces) g)) (gone_at pieces) (x.start + x.len) (old_units (x.start + x.len) zs)
      (λ q. none_kept (λ o. end_of x ≤ o) (put_at (later_of carrier members i x pieces) q))
      (old_each (λ f. (o : ℕ) → f.0 ≡ Some o → end_of x ≤ o) (x.start + x.len) zs (λ q u above below o e. (let f : q ≡ o = cc in omega arith)))

  abbrev Foreign : Full → Type 0
  Foreign f = ends_with carrier (nat_eq i) f.1.1 ≡ false

  foreign : (fs : List Full) → Each (Held carrier members source i x mode here apart false) fs → Each Foreign fs
  foreign [] a = tt
  foreign (f ∷ fs) a = (not_own (held_old f.0) (ends_with carrier (nat_eq i) f.1.1) (given f.0 a.0), foreign fs a.1)
    where
      held_old : Option ℕ → Bool
      held_old None = false
      held_old (Some o) = holds_place x o

      given : (o : Option ℕ) → held_by carrier i x (o, f.1) ≡ false → (held_old o || ends_with carrier (nat_eq i) f.1.1) ≡ false
      given None e = e
      given (Some o) e = e

  -- behind what is kept before it
  pub start_cut : (pieces : List Piece) → Mine carrier members source i x mode here apart pieces → (xs ys zs : List ℕ) → length xs ≡ x.start → length ys ≡ x.len → Cut (λ f. ends_with carrier (nat_eq i) f.1.1 ≡ false) (λ f. (o : ℕ) → f.0 ≡ Some o → x.start ≤ o) (full_text pieces (xs ++ (ys ++ zs)))
  start_cut pieces a xs ys zs ex ey =
      let E : List Full = earlier_part carrier members source i x mode here apart pieces xs in
      let Z : List Full = zone_of carrier members i x pieces ys in
      let L : List Full = later_part carrier members source i x mode here apart pieces zs in
      let Q : Full → Type 0 = λ f. (o : ℕ) → f.0 ≡ Some o → x.start ≤ o in
      let zone : Each Q Z = each_more (λ f. (o : ℕ) → f.0 ≡ Some o → holds_place x o ≡ true) Q Z (λ f h o e. (let t : holds_place x o ≡ true = h o e in grind (arith, nat_tests))) (zone_lies carrier members source i x mode here apart pieces ys ey) in
      let later : Each Q L = each_more (λ f. (o : ℕ) → f.0 ≡ Some o → end_of x ≤ o) Q L (λ f h o e. (let t : end_of x ≤ o = h o e in omega arith)) (later_lies pieces zs) in
      subst (λ z. Cut Foreign Q z) (sym (three_parts carrier members source i x mode here apart pieces a xs ys zs ex ey))
      (cut_parts Foreign Q E (Z ++ L) (foreign E (earlier_held carrier members source i x mode here apart pieces a xs ex)) (each_append Q Z L zone later))

  -- before what is kept behind it
  pub end_cut : (pieces : List Piece) → Mine carrier members source i x mode here apart pieces → (xs ys zs : List ℕ) → length xs ≡ x.start → length ys ≡ x.len → Cut (λ f. (o : ℕ) → f.0 ≡ Some o → o < end_of x) (λ f. ends_with carrier (nat_eq i) f.1.1 ≡ false) (full_text pieces (xs ++ (ys ++ zs)))
  end_cut pieces a xs ys zs ex ey =
      let E : List Full = earlier_part carrier members source i x mode here apart pieces xs in
      let Z : List Full = zone_of carrier members i x pieces ys in
      let L : List Full = later_part carrier members source i x mode here apart pieces zs in
      let P : Full → Type 0 = λ f. (o : ℕ) → f.0 ≡ Some o → o < end_of x in
      let zone : Each P Z = each_more (λ f. (o : ℕ) → f.0 ≡ Some o → holds_place x o ≡ true) P Z (λ f h o e. (let t : holds_place x o ≡ true = h o e in grind (arith, nat_tests))) (zone_lies carrier members source i x mode here apart pieces ys ey) in
      let earlier : Each P E = each_more (λ f. (o : ℕ) → f.0 ≡ Some o → o < x.start) P E (λ f h o e. (let t : o < x.start = h o e in omega arith)) (earlier_lies pieces xs ex) in
      subst (λ z. Cut P Foreign z) (assoc E Z L ∙ sym (three_parts carrier members source i x mode here apart pieces a xs ys zs ex ey))
      (cut_parts P Foreign (E ++ Z) L (each_append P E Z earlier zone) (foreign L (later_held carrier members source i x mode here apart pieces a zs)))
    where
      assoc : (as_ bs cs : List Full) → (as_ ++ bs) ++ cs ≡ as_ ++ (bs ++ cs)
      assoc [] bs cs = refl
      assoc (f ∷ fs) bs cs = ap (λ z. f ∷ z) (assoc fs bs cs)

  -- an earlier member
  module _ (h : ℕ) (w : Span) (mode' : SpanMode) (there : slice_get members h ≡ Some (Member.Tracked source w mode')) (stands : Stands h w i x) (ends : end_of w ≤ x.start) (other : h ≢ i) where
    abbrev Spared : Full → Type 0
    Spared f = held_by carrier h w f ≡ false

    spared_old : (p : ℕ) (us : List ℕ) → x.start ≤ p → Each Spared (old_units p us)
    spared_old p us from = old_each Spared p us (λ q u above below. either (holds_place w q) (let t : end_of w ≤ q = omega arith in grind (arith, nat_tests)))
      where
        either : (c : Bool) → c ≡ false → (c || false) ≡ false
        either true e = e
        either false e = e

    zone_spared : (pieces : List Piece) → Mine carrier members source i x mode here apart pieces → (ys : List ℕ) → Each Spared (zone_of carrier members i x pieces ys)
    zone_spared pieces a ys = woven_each Spared (λ g. map put_in (put_at (own_of carrier members i x pieces) g)) (gone_at pieces) x.start (old_units x.start ys)
        (λ q. put_in_each Spared (put_at (own_of carrier members i x pieces) q) (put_each (λ m. Spared (None, m)) (own_of carrier members i x pieces) q
        (each_more (Own carrier members source i x mode here apart) (λ p. (u : ℕ) → Spared (None, (u, p.trail))) (own_of carrier members i x pieces)
        (λ p g u. of_is carrier members source h p g.0.0 ∙ (let z : nat_eq i g.0.0.member ≡ true = sym (of_is carrier members source i p g.0.0) ∙ g.1 in grind (arith, nat_tests)))
        (own_each carrier members source i x mode here apart pieces a))))
        (spared_old x.start ys (omega arith))

    later_spared : (pieces : List Piece) → Mine carrier members source i x mode here apart pieces → (zs : List ℕ) → Each Spared (later_part carrier members source i x mode here apart pieces zs)
    later_spared pieces a zs = woven_each Spared (λ g. map put_in (put_at (later_of carrier members i x pieces) g)) (gone_at pieces) (x.start + x.len) (old_units (x.start + x.len) zs)
        (λ q. put_in_each Spared (put_at (later_of carrier members i x pieces) q) (put_each (λ m. Spared (None, m)) (later_of carrier members i x pieces) q
        (each_more (Later carrier members source i x mode here apart) (λ p. (u : ℕ) → Spared (None, (u, p.trail))) (later_of carrier members i x pieces)
        (λ p g u. of_is carrier members source h p g.0.0 ∙ not_this p g.0.0 (not_false (is_first members i x p) g.0.1))
        (later_each carrier members source i x mode here apart pieces a))))
        (spared_old (x.start + x.len) zs (omega arith))
      where
        not_this : (p : Piece) (g : IsFor carrier members source p) → is_first members i x p ≡ false → nat_eq h g.member ≡ false
        not_this p g first = elim (cases_eq g.member h) [
          | inl same ↦ absurd (
              let b : g.bounds ≡ w = (let e : Some (Member.Tracked source g.bounds g.mode) ≡ Some (Member.Tracked source w mode') = sym g.there ∙ ap (slice_get members) same ∙ there in cc) in
              let t : stands_before (g.member, g.bounds) (i, x) ≡ true = ap (λ z. stands_before (z, g.bounds) (i, x)) same ∙ ap (λ z. stands_before (h, z) (i, x)) b ∙ stands_so h i w x stands in
              let f : false ≡ true = sym first ∙ first_is carrier members source i x p g ∙ t in cc)
          | inr ne ↦ grind (arith, nat_tests)
        ]

    -- behind what an earlier member holds
    pub order_cut : (pieces : List Piece) → Mine carrier members source i x mode here apart pieces → (xs ys zs : List ℕ) → length xs ≡ x.start → length ys ≡ x.len → Cut (λ f. held_by carrier i x f ≡ false) (λ f. held_by carrier h w f ≡ false) (full_text pieces (xs ++ (ys ++ zs)))
    order_cut pieces a xs ys zs ex ey =
        let E : List Full = earlier_part carrier members source i x mode here apart pieces xs in
        let Z : List Full = zone_of carrier members i x pieces ys in
        let L : List Full = later_part carrier members source i x mode here apart pieces zs in
        subst (λ z. Cut (λ f. held_by carrier i x f ≡ false) Spared z) (sym (three_parts carrier members source i x mode here apart pieces a xs ys zs ex ey))
        (cut_parts (λ f. held_by carrier i x f ≡ false) Spared E (Z ++ L) (earlier_held carrier members source i x mode here apart pieces a xs ex) (each_append Spared Z L (zone_spared pieces a ys) (later_spared pieces a zs)))
