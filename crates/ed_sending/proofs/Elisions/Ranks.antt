-- What an elision buffer shows of its source's new text, each unit by its rank, is its old text with what arrived.
use Rattle.std.proofs.Common.{◌≡◌, ℕ, zero, suc, ◌+◌, ◌-◌, ◌≤◌, Bool, true, List, [], ◌∷◌, ◌++◌, length, map, take, drop, filter, Option, Some, None, refl, sym, ap, ◌∙◌, arith, if◌then◌else◌}
use Rattle.std.specs.Prelude.{nat_eq, slice_get, slice_range, position, sum_by, option_map, option_and_then}
use Rattle.std.specs.List.{position_from}
use Rattle.std.proofs.lemmas.List.{map-append, take-append-drop, drop-drop, length-take, length-drop}
use Rattle.std.proofs.lemmas.List.Sums.{sum_by-cons}
use Rattle.std.proofs.lemmas.Iterator.Adapters.{position_from-zero}
use Rattle.ed_base.specs.declared.edit.Span.{Span}
use Rattle.ed_base.specs.declared.mode.SpanMode.{SpanMode}
use Rattle.ed_base.specs.declared.piece.Member.{Member}
use Rattle.ed_base.specs.declared.piece.Piece.{Piece}
use Rattle.ed_base.specs.Hooks.{CutRules}
use Rattle.ed_base.specs.Numbers.{places}
use Rattle.ed_base.specs.Runs.{runs}
use Rattle.ed_base.specs.Spans.{end_of, holds_place}
use Rattle.ed_layers.specs.CarrierStep.{is_same_slot}
use Rattle.ed_layers.specs.Pieces.{Component, arrived, put_at, gone_at}
use Rattle.ed_layers.specs.Records.{tracked, is_shown, member_len}
use Rattle.ed_layers.specs.Sending.{sent}
use Rattle.ed_layers.specs.SourceStep.{SourceStep, ends_with, trail_above, without_last}
use Rattle.ed_stock.specs.Landing.{pieces_at}
use Rattle.ed_sending.proofs.Lists.SortedParts.{Each, each_more}
use Rattle.ed_sending.proofs.Texts.FullText.{Full, old_units, put_in, full_text, held_by, get_map}
use Rattle.ed_sending.proofs.Members.SourceParts.{IsFor, own_of, own_each, Own, put_each, woven_each, old_each}
use Rattle.ed_sending.proofs.Members.MemberZone.{zone_of, zone_lies, zone_filter, put_in_each}
use Rattle.ed_sending.proofs.Carriers.CarrierText.{starts_of, AllCutsRise}
use Rattle.ed_sending.proofs.Members.OwnPieces.{lifted}
use Rattle.ed_sending.proofs.Carriers.MemberParts.{zone_lifted}
use Rattle.ed_sending.proofs.Carriers.SentPieces.{all_for}
use Rattle.ed_sending.proofs.Carriers.SlotReadings.{LiesIn, map_twice}
use Rattle.ed_sending.proofs.Carriers.SlotPlaces.{slot_of}
use Rattle.ed_sending.proofs.Carriers.NewText.{HaveStepped, SparesLiterals, shown_after, all_shown_after, tracked_shows, carrier_steps}
use Rattle.ed_sending.proofs.Shared.SourceSigns.{sign_of, ends_at, ends_any}
use Rattle.ed_sending.proofs.Shared.ProjectionSigns.{made}
use Rattle.ed_sending.proofs.Elisions.InLine.{all_held}
use Rattle.ed_risen.proofs.Runs.{runs_places, runs_in_line}
use Rattle.ed_sending.proofs.Elisions.ShownMembers.{rank_from}
use Rattle.ed_sending.proofs.Elisions.ShownUnits.{ranked, shows_sign, elision_fits, shown_in_line}
use Rattle.ed_sending.specs.Ready.{AreApart}
use Rattle.ed_layers.specs.Texts.{text_over}

-- a unit of the source as the buffer has it: by its rank among those that were shown, and with the trail above
abbrev pub raised : ℕ → ℕ → List Bool → Full → Full
raised carrier source flags f = ((ranked carrier source flags (sign_of f)).0, (f.1.0, (ranked carrier source flags (sign_of f)).1))

starts_are : (source : ℕ) (xs : List Span) (k : ℕ) → sum_by member_len (take k (map (tracked source) xs)) ≡ sum_by (λ (z : Span). z.len) (take k xs)
starts_are source xs zero = refl
starts_are source [] (suc k) = refl
starts_are source (x ∷ xs) (suc k) = sum_by-cons member_len (tracked source x) (take k (map (tracked source) xs)) ∙ ap (λ n. x.len + n) (starts_are source xs k) ∙ sym (sum_by-cons (λ (z : Span). z.len) x (take k xs))

-- in a zone the carrier's way is the member's
zone_ends : (carrier : ℕ) (members : List Member) (source i : ℕ) (x : Span) (mode : SpanMode) (here : slice_get members i ≡ Some (Member.Tracked source x mode)) (apart : AreApart members source) (pieces : List Piece) → Each (IsFor carrier members source) pieces → (ys : List ℕ) → Each (λ f. ends_at carrier f.1.1 ≡ ends_with carrier (nat_eq i) f.1.1) (zone_of carrier members i x pieces ys)
zone_ends carrier members source i x mode here apart pieces a ys = woven_each (λ f. ends_at carrier f.1.1 ≡ ends_with carrier (nat_eq i) f.1.1) (λ g. map put_in (put_at (own_of carrier members i x pieces) g)) (gone_at pieces) x.start (old_units x.start ys)
    (λ q. put_in_each (λ f. ends_at carrier f.1.1 ≡ ends_with carrier (nat_eq i) f.1.1) (put_at (own_of carrier members i x pieces) q) (put_each (λ m. ends_at carrier m.1 ≡ ends_with carrier (nat_eq i) m.1) (own_of carrier members i x pieces) q
    (each_more (Own carrier members source i x mode here apart) (λ p. (u : ℕ) → ends_at carrier p.trail ≡ ends_with carrier (nat_eq i) p.trail) (own_of carrier members i x pieces)
    (λ p h u. ends_any carrier (nat_eq i) p.trail h.1 ∙ sym h.1)
    (own_each carrier members source i x mode here apart pieces a))))
    (old_each (λ f. ends_at carrier f.1.1 ≡ ends_with carrier (nat_eq i) f.1.1) x.start ys (λ q u above below. refl))

module _ (carrier source : ℕ) (flags : List Bool) (resolver : Option CutRules) (pieces : List Piece) (texts : ℕ → List ℕ) (size : length (texts source) ≡ length flags) where
  abbrev pub spans : List Span
  spans = runs (is_shown flags) (length flags)

  abbrev pub ms : List Member
  ms = map (tracked source) (runs (is_shown flags) (length flags))

  abbrev pub parts : List Component
  parts = arrived pieces (length (text_over texts ms))

  abbrev pub own : List Piece
  own = pieces_at (sent carrier ms resolver parts) source

  abbrev alone : ℕ → Option SourceStep
  alone b = Some (made (full_text (pieces_at (sent carrier ms resolver parts) b) (texts b)))

  have : HaveStepped carrier ms resolver parts texts alone
  have k b x mode here = record { new_len = refl; kept = refl; trails = refl }

  spares : SparesLiterals ms parts
  spares k units d here below = absurd (none spans k here)
    where
      none : (xs : List Span) (k : ℕ) → slice_get (map (tracked source) xs) k ≡ Some (Member.Literal units) → ⊥
      none [] k is = let e : None ≡ Some (Member.Literal units) = is in cc
      none (x ∷ xs) zero is = let e : Some (Member.Tracked source x SpanMode.EdgeExclusive) ≡ Some (Member.Literal units) = is in cc
      none (x ∷ xs) (suc k) is = none xs k is

  one_ranked : (k : ℕ) (x : Span) → slice_get spans k ≡ Some x → (fs : List Full) → Each (LiesIn x) fs → Each (λ f. ends_at carrier f.1.1 ≡ ends_with carrier (nat_eq k) f.1.1) fs → map (raised carrier source flags) fs ≡ map (lifted carrier k (starts_of ms k) x) fs
  one_ranked k x at [] lies ends = refl
  one_ranked k x at (f ∷ fs) lies ends =
      ap (λ z. (z, (f.1.0, trail_above carrier (λ i. true) f.1.1)) ∷ map (raised carrier source flags) fs) (place f.0 lies.0)
      ∙ ap (λ z. (option_map (λ o. starts_of ms k + (o - x.start)) f.0, (f.1.0, (if z then without_last f.1.1 else []))) ∷ map (raised carrier source flags) fs) ends.0
      ∙ ap (λ z. lifted carrier k (starts_of ms k) x f ∷ z) (one_ranked k x at fs lies.1 ends.1)
    where
      place : (p : Option ℕ) → ((o : ℕ) → p ≡ Some o → holds_place x o ≡ true) → option_and_then (λ o. position (is_same_slot (slot_of 0 (Some source) o)) (map (slot_of 0 (Some source)) (filter (is_shown flags) (places (length flags))))) p ≡ option_map (λ o. starts_of ms k + (o - x.start)) p
      place None h = refl
      place (Some o) h =
          position_from-zero (is_same_slot (slot_of 0 (Some source) o)) (map (slot_of 0 (Some source)) (filter (is_shown flags) (places (length flags))))
          ∙ ap (λ z. position_from (is_same_slot (slot_of 0 (Some source) o)) 0 (map (slot_of 0 (Some source)) z)) (runs_places (is_shown flags) (length flags))
          ∙ rank_from (Some source) source 0 spans (runs_in_line (is_shown flags) (length flags)) k x o at (h o refl)
          ∙ ap Some (let e : sum_by member_len (take k ms) ≡ sum_by (λ (z : Span). z.len) (take k spans) = starts_are source spans k in let g : 0 + sum_by (λ (z : Span). z.len) (take k spans) + (o - x.start) ≡ sum_by member_len (take k ms) + (o - x.start) = omega (arith, e) in g)

  all_ranked : (k : ℕ) (xs : List Span) → ((d : ℕ) → slice_get xs d ≡ slice_get spans (k + d)) → map (raised carrier source flags) (all_held carrier k xs (full_text own (texts source))) ≡ all_shown_after carrier ms resolver parts texts alone k (map (tracked source) xs)
  all_ranked k [] same = refl
  all_ranked k (x ∷ xs) same =
      let at : slice_get spans k ≡ Some x = ap (slice_get spans) (let e : k ≡ k + 0 = omega arith in e) ∙ sym (same 0) in
      let here : slice_get ms k ≡ Some (Member.Tracked source x SpanMode.EdgeExclusive) = get_map (tracked source) spans k x at in
      let text : List ℕ = texts source in
      let as_ : List ℕ = take x.start text in
      let ys : List ℕ = slice_range text x.start (end_of x) in
      let zs : List ℕ = drop (x.start + x.len) text in
      let within : end_of x ≤ length text = (elision_fits carrier source flags resolver parts texts size).inside k source x SpanMode.EdgeExclusive here in
      let apart : AreApart ms source = (elision_fits carrier source flags resolver parts texts size).apart source in
      let long : x.start + x.len - x.start ≡ x.len = omega arith in
      let whole : as_ ++ (ys ++ zs) ≡ text = ap (λ n. as_ ++ (take n (drop x.start text) ++ zs)) long ∙ ap (λ z. as_ ++ (take x.len (drop x.start text) ++ z)) (sym (drop-drop x.len x.start text)) ∙ ap (λ z. as_ ++ z) (take-append-drop x.len (drop x.start text)) ∙ take-append-drop x.start text in
      let ex : length as_ ≡ x.start = omega (arith, length-take x.start text, within) in
      let ey : length ys ≡ x.len = omega (arith, length-take (x.start + x.len - x.start) (drop x.start text), length-drop x.start text, within) in
      let for : Each (IsFor carrier ms source) own = all_for carrier ms resolver source parts in
      let zone : filter (held_by carrier k x) (full_text own text) ≡ zone_of carrier ms k x own ys = ap (λ t. filter (held_by carrier k x) (full_text own t)) (sym whole) ∙ zone_filter carrier ms source k x SpanMode.EdgeExclusive here apart own for as_ ys zs ex ey in
      let shown : map (lifted carrier k (starts_of ms k) x) (zone_of carrier ms k x own ys) ≡ shown_after carrier ms resolver parts texts alone k (Member.Tracked source x SpanMode.EdgeExclusive) =
      zone_lifted carrier ms resolver source k x SpanMode.EdgeExclusive here apart parts ys ey ∙ sym (tracked_shows carrier ms resolver parts texts alone have (elision_fits carrier source flags resolver parts texts size) spares k source x SpanMode.EdgeExclusive here).part in
      let R : Full → Full = raised carrier source flags in
      map-append R (filter (held_by carrier k x) (full_text own text)) (all_held carrier (k + 1) xs (full_text own text))
      ∙ ap (λ z. map R z ++ map R (all_held carrier (k + 1) xs (full_text own text))) zone
      ∙ ap (λ z. z ++ map R (all_held carrier (k + 1) xs (full_text own text))) (one_ranked k x at (zone_of carrier ms k x own ys) (zone_lies carrier ms source k x SpanMode.EdgeExclusive here apart own ys ey) (zone_ends carrier ms source k x SpanMode.EdgeExclusive here apart own for ys) ∙ shown)
      ∙ ap (λ z. shown_after carrier ms resolver parts texts alone k (Member.Tracked source x SpanMode.EdgeExclusive) ++ z) (all_ranked (k + 1) xs (λ d. same (suc d) ∙ ap (slice_get spans) (let e : k + suc d ≡ (k + 1) + d = omega arith in e)))

  -- What the buffer shows of the text that its own pieces make of its source is its old text with what arrived.
  pub raised_full : AllCutsRise ms resolver parts → map (raised carrier source flags) (filter (λ f. shows_sign carrier flags (sign_of f)) (full_text own (texts source))) ≡ full_text pieces (text_over texts ms)
  raised_full cuts =
      ap (map (raised carrier source flags)) (shown_in_line carrier source flags resolver parts texts size)
      ∙ all_ranked 0 spans (λ d. ap (slice_get spans) (let e : d ≡ 0 + d = omega arith in e))
      ∙ carrier_steps carrier ms resolver pieces texts alone have (elision_fits carrier source flags resolver parts texts size) spares cuts

  pub ranked_full : AllCutsRise ms resolver parts → map (λ f. ranked carrier source flags (sign_of f)) (filter (λ f. shows_sign carrier flags (sign_of f)) (full_text own (texts source))) ≡ map sign_of (full_text pieces (text_over texts ms))
  ranked_full cuts = sym (map_twice sign_of (raised carrier source flags) (filter (λ f. shows_sign carrier flags (sign_of f)) (full_text own (texts source)))) ∙ ap (map sign_of) (raised_full cuts)
