-- A tracked member after its source stepped by the pieces of its carrier: its old units, with its own pieces done.
use Rattle.std.proofs.Common.{◌≡◌, ◌≢◌, ℕ, ◌+◌, ◌-◌, ◌<◌, ◌≤◌, Bool, true, false, ◌||◌, List, [], ◌∷◌, ◌++◌, length, map, take, filter, Some, None, sym, ap, ◌∙◌, arith, subst}
use Rattle.std.specs.Prelude.{slice_get, slice_range, nat_eq}
use Rattle.std.proofs.lemmas.Bool.Decides.{nat_tests}
use Rattle.std.proofs.lemmas.List.{append-nil, map-append}
use Rattle.std.proofs.Math.Seq.{take-append_seam}
use Rattle.ed_base.specs.declared.edit.Span.{Span}
use Rattle.ed_base.specs.declared.mode.SpanMode.{SpanMode}
use Rattle.ed_base.specs.declared.piece.Member.{Member}
use Rattle.ed_base.specs.declared.piece.Piece.{Piece}
use Rattle.ed_base.specs.Edit.{woven}
use Rattle.ed_base.specs.Spans.{end_of, holds_place}
use Rattle.ed_layers.specs.Order.{is_inclusive}
use Rattle.ed_layers.specs.Bounds.{Placed, new_bounds}
use Rattle.ed_layers.specs.Pieces.{put_at, gone_at}
use Rattle.ed_layers.specs.SourceStep.{SourceStep}
use Rattle.ed_sending.proofs.Lists.SortedParts.{Each, each_more, filter_each, not_false, filter_all, filter_none}
use Rattle.std.proofs.lemmas.List.Elements.{filter-append}
use Rattle.ed_sending.proofs.Texts.PiecesAtGap.{put_none}
use Rattle.ed_sending.proofs.Texts.FullText.{Full, old_units, put_in, full_text, held_by, IsStepTo}
use Rattle.ed_sending.proofs.Lists.Weaves.{woven_parts}
use Rattle.ed_sending.proofs.Members.HeldSlice.{source_slice}
use Rattle.ed_sending.proofs.Members.SourceParts.{IsFor, is_first, is_of, earlier_of, own_of, later_of, puts_are, earlier_puts, own_before, own_after, later_puts, earlier_other, of_is, own_each, later_each, Own, Later, put_each, woven_each, old_each, old_append, length_old}
use Rattle.ed_sending.specs.Ready.{AreApart}

-- the old units of a member with its own pieces done
abbrev pub zone_of : ℕ → List Member → ℕ → Span → List Piece → List ℕ → List Full
zone_of carrier members i x pieces ys = woven (λ g. map put_in (put_at (own_of carrier members i x pieces) g)) (gone_at pieces) x.start (old_units x.start ys)

pub put_in_each : (P : Full → Type 0) (ms : List (ℕ × List (ℕ × ℕ))) → Each (λ m. P (None, m)) ms → Each P (map put_in ms)
put_in_each P [] a = tt
put_in_each P (m ∷ ms) a = (a.0, put_in_each P ms a.1)

module _ (carrier : ℕ) (members : List Member) (source : ℕ) (i : ℕ) (x : Span) (mode : SpanMode) (here : slice_get members i ≡ Some (Member.Tracked source x mode)) (apart : AreApart members source) where
  abbrev pub Mine : List Piece → Type 0
  Mine pieces = Each (IsFor carrier members source) pieces

  abbrev pub Held : Bool → Full → Type 0
  Held b f = held_by carrier i x f ≡ b

  abbrev pub earlier_part : List Piece → List ℕ → List Full
  earlier_part pieces xs = woven (λ g. map put_in (put_at (earlier_of members i x pieces) g)) (gone_at pieces) 0 (old_units 0 xs)

  abbrev pub later_part : List Piece → List ℕ → List Full
  later_part pieces zs = woven (λ g. map put_in (put_at (later_of carrier members i x pieces) g)) (gone_at pieces) (x.start + x.len) (old_units (x.start + x.len) zs)

  -- the new text of the source in three parts
  pub three_parts : (pieces : List Piece) → Mine pieces → (xs ys zs : List ℕ) → length xs ≡ x.start → length ys ≡ x.len → full_text pieces (xs ++ (ys ++ zs)) ≡ earlier_part pieces xs ++ (zone_of carrier members i x pieces ys ++ later_part pieces zs)
  three_parts pieces a xs ys zs ex ey =
      let P : ℕ → List Full = λ g. map put_in (put_at pieces g) in
      let B : ℕ → List Full = λ g. map put_in (put_at (earlier_of members i x pieces) g) in
      let O : ℕ → List Full = λ g. map put_in (put_at (own_of carrier members i x pieces) g) in
      let A : ℕ → List Full = λ g. map put_in (put_at (later_of carrier members i x pieces) g) in
      let lx : length (old_units 0 xs) ≡ x.start = length_old 0 xs ∙ ex in
      let ly : length (old_units x.start ys) ≡ x.len = length_old x.start ys ∙ ey in
      let texts : old_units 0 (xs ++ (ys ++ zs)) ≡ old_units 0 xs ++ (old_units x.start ys ++ old_units (x.start + x.len) zs) =
      old_append 0 xs (ys ++ zs) ∙ ap (λ z. old_units 0 xs ++ old_units z (ys ++ zs)) (let e : 0 + length xs ≡ x.start = omega arith in e)
      ∙ ap (λ z. old_units 0 xs ++ z) (old_append x.start ys zs ∙ ap (λ z. old_units x.start ys ++ old_units (x.start + z) zs) ey) in
      ap (λ z. woven P (gone_at pieces) 0 z) texts
      ∙ woven_parts P B O A (gone_at pieces) (old_units 0 xs) (old_units x.start ys) (old_units (x.start + x.len) zs)
      (λ q. ap (λ z. map put_in z) (puts_are carrier members source i x mode here apart pieces a q)
      ∙ map-append put_in (put_at (earlier_of members i x pieces) q) (put_at (own_of carrier members i x pieces) q ++ put_at (later_of carrier members i x pieces) q)
      ∙ ap (λ z. B q ++ z) (map-append put_in (put_at (own_of carrier members i x pieces) q) (put_at (later_of carrier members i x pieces) q)))
      (λ q above. ap (λ z. map put_in z) (earlier_puts carrier members source i x mode here apart pieces a q (omega arith)))
      (λ q below. ap (λ z. map put_in z) (own_before carrier members source i x mode here apart pieces a q (omega arith)))
      (λ q above. ap (λ z. map put_in z) (own_after carrier members source i x mode here apart pieces a q (omega arith)))
      (λ q below. ap (λ z. map put_in z) (later_puts carrier members source i x mode here apart pieces a q (omega arith)))
      ∙ ap (λ n. earlier_part pieces xs ++ (woven O (gone_at pieces) n (old_units x.start ys) ++ woven A (gone_at pieces) (n + length (old_units x.start ys)) (old_units (x.start + x.len) zs))) lx
      ∙ ap (λ n. earlier_part pieces xs ++ (zone_of carrier members i x pieces ys ++ woven A (gone_at pieces) (x.start + n) (old_units (x.start + x.len) zs))) ly

  -- what the member holds of them
  old_held : (b : Bool) (p : ℕ) (us : List ℕ) → ((q : ℕ) → p ≤ q → q < p + length us → holds_place x q ≡ b) → Each (Held b) (old_units p us)
  old_held b p us h = old_each (Held b) p us (λ q u above below. either b (holds_place x q) (h q above below))
    where
      either : (b c : Bool) → c ≡ b → (c || false) ≡ b
      either b true e = e
      either b false e = e

  pub earlier_held : (pieces : List Piece) → Mine pieces → (xs : List ℕ) → length xs ≡ x.start → Each (Held false) (earlier_part pieces xs)
  earlier_held pieces a xs ex = woven_each (Held false) (λ g. map put_in (put_at (earlier_of members i x pieces) g)) (gone_at pieces) 0 (old_units 0 xs)
      (λ q. put_in_each (Held false) (put_at (earlier_of members i x pieces) q) (put_each (λ m. Held false (None, m)) (earlier_of members i x pieces) q
      (each_more (λ p. IsFor carrier members source p × (is_first members i x p ≡ true)) (λ p. (u : ℕ) → Held false (None, (u, p.trail))) (earlier_of members i x pieces)
      (λ p h u. of_is carrier members source i p h.0 ∙ (let ne : h.0.member ≢ i = earlier_other carrier members source i x mode here apart p h.0 h.1 in grind (arith, nat_tests)))
      (filter_each (IsFor carrier members source) (is_first members i x) pieces a))))
      (old_held false 0 xs (λ q above below. grind (arith, nat_tests)))

  pub zone_held : (pieces : List Piece) → Mine pieces → (ys : List ℕ) → length ys ≡ x.len → Each (Held true) (zone_of carrier members i x pieces ys)
  zone_held pieces a ys ey = woven_each (Held true) (λ g. map put_in (put_at (own_of carrier members i x pieces) g)) (gone_at pieces) x.start (old_units x.start ys)
      (λ q. put_in_each (Held true) (put_at (own_of carrier members i x pieces) q) (put_each (λ m. Held true (None, m)) (own_of carrier members i x pieces) q
      (each_more (Own carrier members source i x mode here apart) (λ p. (u : ℕ) → Held true (None, (u, p.trail))) (own_of carrier members i x pieces)
      (λ p h u. h.1)
      (own_each carrier members source i x mode here apart pieces a))))
      (old_held true x.start ys (λ q above below. grind (arith, nat_tests)))

  pub later_held : (pieces : List Piece) → Mine pieces → (zs : List ℕ) → Each (Held false) (later_part pieces zs)
  later_held pieces a zs = woven_each (Held false) (λ g. map put_in (put_at (later_of carrier members i x pieces) g)) (gone_at pieces) (x.start + x.len) (old_units (x.start + x.len) zs)
      (λ q. put_in_each (Held false) (put_at (later_of carrier members i x pieces) q) (put_each (λ m. Held false (None, m)) (later_of carrier members i x pieces) q
      (each_more (Later carrier members source i x mode here apart) (λ p. (u : ℕ) → Held false (None, (u, p.trail))) (later_of carrier members i x pieces)
      (λ p h u. not_false (is_of carrier i p) h.1)
      (later_each carrier members source i x mode here apart pieces a))))
      (old_held false (x.start + x.len) zs (λ q above below. grind (arith, nat_tests)))

  -- The slice of the member's new bounds is its zone.
  pub member_zone : (s : SourceStep) (all : List Placed) (pieces : List Piece) → Mine pieces → (xs ys zs : List ℕ) → length xs ≡ x.start → length ys ≡ x.len → IsStepTo s (full_text pieces (xs ++ (ys ++ zs))) → is_inclusive mode ≡ false → (slice_range (full_text pieces (xs ++ (ys ++ zs))) (new_bounds carrier s all mode (record { index = i; bounds = x })).start (end_of (new_bounds carrier s all mode (record { index = i; bounds = x }))) ≡ zone_of carrier members i x pieces ys) × ((new_bounds carrier s all mode (record { index = i; bounds = x })).len ≡ length (zone_of carrier members i x pieces ys))
  member_zone s all pieces a xs ys zs ex ey step exclusive =
      let parts : full_text pieces (xs ++ (ys ++ zs)) ≡ earlier_part pieces xs ++ (zone_of carrier members i x pieces ys ++ later_part pieces zs) = three_parts pieces a xs ys zs ex ey in
      let b : Span = new_bounds carrier s all mode (record { index = i; bounds = x }) in
      let is : (slice_range (earlier_part pieces xs ++ (zone_of carrier members i x pieces ys ++ later_part pieces zs)) b.start (end_of b) ≡ zone_of carrier members i x pieces ys) × (b.len ≡ length (zone_of carrier members i x pieces ys)) =
      source_slice carrier i s all mode x (earlier_part pieces xs) (zone_of carrier members i x pieces ys) (later_part pieces zs) (subst (λ z. IsStepTo s z) parts step) (earlier_held pieces a xs ex) (zone_held pieces a ys ey) (later_held pieces a zs) exclusive in
      (ap (λ z. slice_range z b.start (end_of b)) parts ∙ is.0, is.1)

  -- A member that covers its source and is alone on it: its zone is the whole new text.
  pub covering_zone : (s : SourceStep) (all : List Placed) (pieces : List Piece) → Mine pieces → (ys : List ℕ) → x.start ≡ 0 → length ys ≡ x.len → IsStepTo s (full_text pieces ys) → is_inclusive mode ≡ true → ((j : ℕ) (y : Span) (mode' : SpanMode) → slice_get members j ≡ Some (Member.Tracked source y mode') → j ≡ i) → (slice_range (full_text pieces ys) (new_bounds carrier s all mode (record { index = i; bounds = x })).start (end_of (new_bounds carrier s all mode (record { index = i; bounds = x }))) ≡ zone_of carrier members i x pieces ys) × ((new_bounds carrier s all mode (record { index = i; bounds = x })).len ≡ length (zone_of carrier members i x pieces ys))
  unfolding new_bounds
  covering_zone s all pieces a ys ex ey step inclusive alone =
      let parts : full_text pieces ([] ++ (ys ++ [])) ≡ earlier_part pieces [] ++ (zone_of carrier members i x pieces ys ++ later_part pieces []) = three_parts pieces a [] ys [] (sym ex) ey in
      let none_first : earlier_part pieces [] ≡ [] = ap (λ z. map put_in z) (put_none (earlier_of members i x pieces) 0 (each_more (λ p. IsFor carrier members source p × (is_first members i x p ≡ true)) (λ p. nat_eq p.start 0 ≡ false) (earlier_of members i x pieces) (λ p h. absurd (earlier_other carrier members source i x mode here apart p h.0 h.1 (alone h.0.member h.0.bounds h.0.mode h.0.there))) (filter_each (IsFor carrier members source) (is_first members i x) pieces a))) in
      let none_last : later_part pieces [] ≡ [] = ap (λ z. map put_in z) (put_none (later_of carrier members i x pieces) (x.start + x.len) (each_more (Later carrier members source i x mode here apart) (λ p. nat_eq p.start (x.start + x.len) ≡ false) (later_of carrier members i x pieces) (λ p h. absurd (
      let ne : nat_eq i h.0.0.member ≡ false = sym (of_is carrier members source i p h.0.0) ∙ not_false (is_of carrier i p) h.1 in
      let e : h.0.0.member ≡ i = alone h.0.0.member h.0.0.bounds h.0.0.mode h.0.0.there in grind (arith, nat_tests))) (later_each carrier members source i x mode here apart pieces a))) in
      let whole : full_text pieces ys ≡ zone_of carrier members i x pieces ys =
      ap (λ z. full_text pieces z) (sym (append-nil ys)) ∙ parts ∙ ap (λ z. z ++ (zone_of carrier members i x pieces ys ++ later_part pieces [])) none_first ∙ ap (λ z. zone_of carrier members i x pieces ys ++ z) none_last ∙ append-nil (zone_of carrier members i x pieces ys) in
      let len : s.step.new_len ≡ length (full_text pieces ys) = step.new_len in
      let e : (0 + (s.step.new_len - 0)) - 0 ≡ length (full_text pieces ys) = omega arith in
      let range : take ((0 + (s.step.new_len - 0)) - 0) (full_text pieces ys) ≡ zone_of carrier members i x pieces ys = (ap (λ n. take n (full_text pieces ys)) e ∙ ap (λ z. take (length (full_text pieces ys)) z) (sym (append-nil (full_text pieces ys))) ∙ take-append_seam (full_text pieces ys) [] ∙ whole) in
      rw inclusive (range, (let f : s.step.new_len - 0 ≡ length (full_text pieces ys) = omega arith in f ∙ ap (λ (z : List Full). length z) whole))

  -- each kept unit of the zone was in the member
  pub zone_lies : (pieces : List Piece) (ys : List ℕ) → length ys ≡ x.len → Each (λ f. (o : ℕ) → f.0 ≡ Some o → holds_place x o ≡ true) (zone_of carrier members i x pieces ys)
  zone_lies pieces ys ey = woven_each (λ f. (o : ℕ) → f.0 ≡ Some o → holds_place x o ≡ true) (λ g. map put_in (put_at (own_of carrier members i x pieces) g)) (gone_at pieces) x.start (old_units x.start ys)
      (λ q. none_kept (put_at (own_of carrier members i x pieces) q))
      (old_each (λ f. (o : ℕ) → f.0 ≡ Some o → holds_place x o ≡ true) x.start ys (λ q u above below o e. (let f : q ≡ o = cc in grind (arith, nat_tests))))
    where
      none_kept : (ms : List (ℕ × List (ℕ × ℕ))) → Each (λ f. (o : ℕ) → f.0 ≡ Some o → holds_place x o ≡ true) (map put_in ms)
      none_kept [] = tt
      none_kept (m ∷ ms) = ((λ o e. absurd (let z : None ≡ Some o = e in cc)), none_kept ms)

  -- the zone is all that the member holds
  pub zone_filter : (pieces : List Piece) → Mine pieces → (xs ys zs : List ℕ) → length xs ≡ x.start → length ys ≡ x.len → filter (held_by carrier i x) (full_text pieces (xs ++ (ys ++ zs))) ≡ zone_of carrier members i x pieces ys
  zone_filter pieces a xs ys zs ex ey =
      let e : List Full = earlier_part pieces xs in
      let z : List Full = zone_of carrier members i x pieces ys in
      let l : List Full = later_part pieces zs in
      ap (filter (held_by carrier i x)) (three_parts pieces a xs ys zs ex ey)
      ∙ filter-append (held_by carrier i x) e (z ++ l) ∙ ap (λ w. w ++ filter (held_by carrier i x) (z ++ l)) (filter_none (held_by carrier i x) e (earlier_held pieces a xs ex))
      ∙ filter-append (held_by carrier i x) z l ∙ ap (λ w. filter (held_by carrier i x) z ++ w) (filter_none (held_by carrier i x) l (later_held pieces a zs)) ∙ append-nil (filter (held_by carrier i x) z)
      ∙ filter_all (held_by carrier i x) z (zone_held pieces a ys ey)
