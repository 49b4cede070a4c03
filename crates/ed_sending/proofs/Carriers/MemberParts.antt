-- Each member of a carrier after its sources stepped: what arrived, woven into the member's own part of the old text.
use Rattle.std.proofs.Common.{◌≡◌, ℕ, ◌+◌, ◌-◌, ◌≤◌, true, false, List, [], ◌∷◌, ◌++◌, length, map, take, drop, filter, Option, Some, refl, sym, ap, ◌∙◌, arith, subst}
use Rattle.std.specs.Prelude.{slice_get, slice_range, sum_by}
use Rattle.std.proofs.lemmas.List.{length-take}
use Rattle.ed_base.specs.declared.edit.Span.{Span}
use Rattle.ed_base.specs.declared.mode.SpanMode.{SpanMode}
use Rattle.ed_base.specs.declared.piece.Member.{Member}
use Rattle.ed_base.specs.declared.piece.Piece.{Piece}
use Rattle.ed_base.specs.Edit.{woven}
use Rattle.ed_base.specs.Hooks.{CutRules}
use Rattle.ed_base.specs.Spans.{end_of, holds_place}
use Rattle.ed_layers.specs.Order.{is_inclusive}
use Rattle.ed_layers.specs.Bounds.{Placed, new_bounds}
use Rattle.ed_layers.specs.Records.{member_len}
use Rattle.ed_layers.specs.Pieces.{Component, put_at, gone_at}
use Rattle.ed_layers.specs.Sending.{sent}
use Rattle.ed_layers.specs.SourceStep.{SourceStep}
use Rattle.ed_stock.specs.Landing.{pieces_at}
use Rattle.ed_sending.proofs.Lists.Weaves.{woven_map, woven_shifted}
use Rattle.ed_sending.proofs.Texts.FullText.{Full, old_units, put_in, full_text, held_by, IsStepTo}
use Rattle.ed_sending.proofs.Members.SourceParts.{own_of, length_old, old_append}
use Rattle.ed_sending.proofs.Members.MemberZone.{zone_of, member_zone, covering_zone, zone_lies, zone_filter}
use Rattle.ed_sending.proofs.Lists.SortedParts.{Each}
use Rattle.ed_sending.proofs.Members.HeldSlice.{range_middle}
use Rattle.ed_sending.proofs.Members.Targets.{dealt_of}
use Rattle.ed_sending.proofs.Carriers.MemberChunks.{own_put}
use Rattle.ed_sending.proofs.Carriers.CarrierText.{taken_of}
use Rattle.ed_sending.proofs.Carriers.SentPieces.{all_for}
use Rattle.ed_sending.proofs.Members.OwnPieces.{lifted, own_puts}
use Rattle.ed_sending.proofs.Members.OwnDeletions.{own_taken}
use Rattle.ed_sending.specs.Ready.{AreApart}

lifted_old : (carrier k a : ℕ) (x : Span) (d : ℕ) (us : List ℕ) → map (lifted carrier k a x) (old_units (x.start + d) us) ≡ old_units (a + d) us
lifted_old carrier k a x d [] = refl
lifted_old carrier k a x d (u ∷ us) =
    let e : a + (x.start + d - x.start) ≡ a + d = omega arith in
    let f : x.start + d + 1 ≡ x.start + (d + 1) = omega arith in
    let g : a + (d + 1) ≡ a + d + 1 = omega arith in
    ap (λ z. (Some z, (u, [])) ∷ map (lifted carrier k a x) (old_units (x.start + d + 1) us)) e
    ∙ ap (λ z. (Some (a + d), (u, [])) ∷ map (lifted carrier k a x) (old_units z us)) f
    ∙ ap (λ z. (Some (a + d), (u, [])) ∷ z) (lifted_old carrier k a x (d + 1) us)
    ∙ ap (λ z. (Some (a + d), (u, [])) ∷ old_units z us) g

pub woven_none : (p : ℕ) (us : List Full) → woven (λ g. []) (λ q. false) p us ≡ us
woven_none p [] = refl
woven_none p (u ∷ us) = ap (λ z. u ∷ z) (woven_none (p + 1) us)

module _ (carrier : ℕ) (members : List Member) (resolver : Option CutRules) (b k : ℕ) (x : Span) (mode : SpanMode) (here : slice_get members k ≡ Some (Member.Tracked b x mode)) (apart : AreApart members b) (cs : List Component) where
  abbrev pub ps : List Piece
  ps = pieces_at (sent carrier members resolver cs) b

  abbrev pub a : ℕ
  a = sum_by member_len (take k members)

  -- the zone of the member, as the carrier has it
  pub zone_lifted : (ys : List ℕ) → length ys ≡ x.len → map (lifted carrier k a x) (zone_of carrier members k x ps ys) ≡ woven (own_put k (map (dealt_of members resolver) cs)) (taken_of cs) a (old_units a ys)
  zone_lifted ys ey =
      let l : Full → Full = lifted carrier k a x in
      let put : ℕ → List Full = λ g. map put_in (put_at (own_of carrier members k x ps) g) in
      let olds : map l (old_units x.start ys) ≡ old_units a ys =
      ap (λ z. map l (old_units z ys)) (let e : x.start ≡ x.start + 0 = omega arith in e) ∙ lifted_old carrier k a x 0 ys ∙ ap (λ z. old_units z ys) (let e : a + 0 ≡ a = omega arith in e) in
      let size : length (old_units a ys) ≡ x.len = length_old a ys ∙ ey in
      woven_map l put (gone_at ps) x.start (old_units x.start ys)
      ∙ ap (λ z. woven (λ q. map l (put q)) (gone_at ps) x.start z) olds
      ∙ woven_shifted (λ q. map l (put q)) (own_put k (map (dealt_of members resolver) cs)) (gone_at ps) (taken_of cs) x.start a (old_units a ys)
      (λ d below. own_puts carrier members resolver b k x mode here (x.start + d) d refl cs)
      (λ d below. own_taken carrier members resolver b k x mode here apart d (omega (arith, size)) cs)

  -- what the member shows after the step, and that its kept units were in it
  pub record ShowsPart (fs : List Full) (nb : Span) (ys : List ℕ) : Type 0 where
    pub part : map (lifted carrier k a x) (slice_range fs nb.start (end_of nb)) ≡ woven (own_put k (map (dealt_of members resolver) cs)) (taken_of cs) a (old_units a ys)
    pub lies : Each (λ f. (o : ℕ) → f.0 ≡ Some o → holds_place x o ≡ true) (slice_range fs nb.start (end_of nb))
    pub len : nb.len ≤ length (drop nb.start fs)

  shows : (fs : List Full) (nb : Span) (ys : List ℕ) → length ys ≡ x.len → slice_range fs nb.start (end_of nb) ≡ zone_of carrier members k x ps ys → nb.len ≡ length (zone_of carrier members k x ps ys) → ShowsPart fs nb ys
  shows fs nb ys ey is size = record {
    part = ap (λ z. map (lifted carrier k a x) z) is ∙ zone_lifted ys ey;
    lies = subst (λ z. Each (λ f. (o : ℕ) → f.0 ≡ Some o → holds_place x o ≡ true) z) (sym is) (zone_lies carrier members b k x mode here apart ps ys ey);
    len = (let e : length (slice_range fs nb.start (end_of nb)) ≡ length (zone_of carrier members k x ps ys) = ap (λ (z : List Full). length z) is in omega (arith, e, size, length-take (nb.start + nb.len - nb.start) (drop nb.start fs)));
  }

  pub member_part : (s : SourceStep) (all : List Placed) (xs ys zs : List ℕ) → length xs ≡ x.start → length ys ≡ x.len → IsStepTo s (full_text ps (xs ++ (ys ++ zs))) → is_inclusive mode ≡ false → ShowsPart (full_text ps (xs ++ (ys ++ zs))) (new_bounds carrier s all mode (record { index = k; bounds = x })) ys
  member_part s all xs ys zs ex ey step exclusive =
      let nb : Span = new_bounds carrier s all mode (record { index = k; bounds = x }) in
      let is : (slice_range (full_text ps (xs ++ (ys ++ zs))) nb.start (end_of nb) ≡ zone_of carrier members k x ps ys) × (nb.len ≡ length (zone_of carrier members k x ps ys)) = member_zone carrier members b k x mode here apart s all ps (all_for carrier members resolver b cs) xs ys zs ex ey step exclusive in
      shows (full_text ps (xs ++ (ys ++ zs))) nb ys ey is.0 is.1

  pub covering_part : (s : SourceStep) (all : List Placed) (ys : List ℕ) → x.start ≡ 0 → length ys ≡ x.len → IsStepTo s (full_text ps ys) → is_inclusive mode ≡ true → ((j : ℕ) (y : Span) (mode' : SpanMode) → slice_get members j ≡ Some (Member.Tracked b y mode') → j ≡ k) → ShowsPart (full_text ps ys) (new_bounds carrier s all mode (record { index = k; bounds = x })) ys
  covering_part s all ys ex ey step inclusive alone =
      let nb : Span = new_bounds carrier s all mode (record { index = k; bounds = x }) in
      let is : (slice_range (full_text ps ys) nb.start (end_of nb) ≡ zone_of carrier members k x ps ys) × (nb.len ≡ length (zone_of carrier members k x ps ys)) = covering_zone carrier members b k x mode here apart s all ps (all_for carrier members resolver b cs) ys ex ey step inclusive alone in
      shows (full_text ps ys) nb ys ey is.0 is.1

  -- a source that didn't step, since what was sent there does nothing
  still_range : (xs ys zs : List ℕ) → length xs ≡ x.start → length ys ≡ x.len → full_text ps (xs ++ (ys ++ zs)) ≡ old_units 0 (xs ++ (ys ++ zs)) → slice_range (full_text ps (xs ++ (ys ++ zs))) x.start (end_of x) ≡ old_units x.start ys
  still_range xs ys zs ex ey same =
      let fs : List Full = old_units 0 (xs ++ (ys ++ zs)) in
      let at : 0 + length xs ≡ x.start = omega (arith, ex) in
      let cut : fs ≡ old_units 0 xs ++ (old_units x.start ys ++ old_units (x.start + length ys) zs) = old_append 0 xs (ys ++ zs) ∙ ap (λ z. old_units 0 xs ++ old_units z (ys ++ zs)) at ∙ ap (λ z. old_units 0 xs ++ z) (old_append x.start ys zs) in
      let l : length (old_units 0 xs) ≡ x.start = length_old 0 xs ∙ ex in
      let m : length (old_units x.start ys) ≡ x.len = length_old x.start ys ∙ ey in
      ap (λ z. slice_range z x.start (end_of x)) (same ∙ cut) ∙ ap (λ z. slice_range (old_units 0 xs ++ (old_units x.start ys ++ old_units (x.start + length ys) zs)) z (z + x.len)) (sym l) ∙ ap (λ z. slice_range (old_units 0 xs ++ (old_units x.start ys ++ old_units (x.start + length ys) zs)) (length (old_units 0 xs)) (length (old_units 0 xs) + z)) (sym m) ∙ range_middle (old_units 0 xs) (old_units x.start ys) (old_units (x.start + length ys) zs)

  pub still_shown : (xs ys zs : List ℕ) → length xs ≡ x.start → length ys ≡ x.len → full_text ps (xs ++ (ys ++ zs)) ≡ old_units 0 (xs ++ (ys ++ zs)) → map (lifted carrier k a x) (slice_range (full_text ps (xs ++ (ys ++ zs))) x.start (end_of x)) ≡ old_units a ys
  still_shown xs ys zs ex ey same =
      ap (λ z. map (lifted carrier k a x) z) (still_range xs ys zs ex ey same)
      ∙ ap (λ z. map (lifted carrier k a x) (old_units z ys)) (let e : x.start ≡ x.start + 0 = omega arith in e) ∙ lifted_old carrier k a x 0 ys ∙ ap (λ z. old_units z ys) (let e : a + 0 ≡ a = omega arith in e)

  pub still_part : (xs ys zs : List ℕ) → length xs ≡ x.start → length ys ≡ x.len → full_text ps (xs ++ (ys ++ zs)) ≡ old_units 0 (xs ++ (ys ++ zs)) → ShowsPart (full_text ps (xs ++ (ys ++ zs))) x ys
  still_part xs ys zs ex ey same =
      let fs : List Full = old_units 0 (xs ++ (ys ++ zs)) in
      let none : full_text [] (xs ++ (ys ++ zs)) ≡ fs = woven_none 0 fs in
      let zone : zone_of carrier members k x ps ys ≡ old_units x.start ys =
      sym (zone_filter carrier members b k x mode here apart ps (all_for carrier members resolver b cs) xs ys zs ex ey) ∙ ap (filter (held_by carrier k x)) (same ∙ sym none) ∙ zone_filter carrier members b k x mode here apart [] tt xs ys zs ex ey ∙ woven_none x.start (old_units x.start ys) in
      let m : length (old_units x.start ys) ≡ x.len = length_old x.start ys ∙ ey in
      shows (full_text ps (xs ++ (ys ++ zs))) x ys ey (still_range xs ys zs ex ey same ∙ sym zone) (sym m ∙ ap (λ (z : List Full). length z) (sym zone))
