-- An elision buffer whose source stepped by its own pieces alone steps by the pieces that arrived there, and so its text is what they make of the old one.
use Rattle.std.proofs.Common.{◌≡◌, ℕ, zero, suc, ◌+◌, ◌-◌, ◌<◌, ◌≤◌, Bool, true, false, not, ◌&&◌, ◌||◌, List, [], ◌∷◌, ◌++◌, length, map, filter, Option, Some, None, refl, sym, ap, ◌∙◌, arith, subst}
use Rattle.std.specs.Prelude.{nat_eq, slice_get}
use Rattle.std.specs.Option.{option_map_or}
use Rattle.std.specs.List.{range_with_len}
use Rattle.std.proofs.lemmas.Bool.Decides.{nat_tests}
use Rattle.ed_base.specs.declared.piece.Piece.{Piece}
use Rattle.ed_base.specs.Hooks.{CutRules}
use Rattle.ed_base.specs.Numbers.{places}
use Rattle.ed_base.specs.Step.{pairs_from}
use Rattle.ed_layers.specs.CarrierStep.{carrier_step, record_trails, all_stay}
use Rattle.ed_layers.specs.Hidden.{hidden_after, flags_after, among_hidden, kept_left, kept_right}
use Rattle.ed_layers.specs.Pieces.{put_at, gone_at}
use Rattle.ed_layers.specs.Records.{elision, is_shown, is_hidden, tracked}
use Rattle.ed_base.specs.declared.edit.Span.{Span}
use Rattle.ed_base.specs.Runs.{runs}
use Rattle.ed_base.specs.Spans.{end_of}
use Rattle.std.specs.Prelude.{slice_range, take, drop, unwrap_or}
use Rattle.std.proofs.lemmas.List.{length-map, map-append}
use Rattle.std.proofs.lemmas.Option.{slice_get_within}
use Rattle.ed_risen.proofs.NextRecords.{length_flags_after}
use Rattle.ed_risen.proofs.Runs.{places_of, runs_end, runs_places}
use Rattle.ed_sending.proofs.Carriers.ProjectionStep.{old_tells, step_tells, unit_of}
use Rattle.ed_layers.specs.SourceStep.{SourceStep, trail_at, ends_with, names, kept_from}
use Rattle.ed_sending.proofs.Lists.SortedParts.{Each, each_got, each_more}
use Rattle.ed_sending.proofs.Texts.FullText.{Full, old_units, put_in, full_text, get_map, IsStepTo, kept_from_is, trail_at_is}
use Rattle.ed_sending.proofs.Members.SourceParts.{IsFor, ends_last, length_old, put_each, woven_each, old_each}
use Rattle.ed_sending.proofs.Members.MemberZone.{put_in_each}
use Rattle.ed_sending.proofs.Carriers.CarrierText.{AllCutsRise}
use Rattle.ed_sending.proofs.Carriers.SentPieces.{all_for}
use Rattle.ed_sending.proofs.Carriers.SlotReadings.{Tells, map_twice, trail_told}
use Rattle.ed_sending.proofs.Carriers.SlotPlaces.{slot_of}
use Rattle.ed_sending.proofs.Carriers.NewText.{StepsBy}
use Rattle.ed_sending.proofs.Shared.SourceSigns.{Sign, sign_of, IsSigned, sign_at, ends_at}
use Rattle.ed_sending.proofs.Elisions.ShownUnits.{shows_sign, ranked}
use Rattle.ed_sending.proofs.Elisions.Ranks.{ms, parts, own, raised, raised_full, ranked_full}
use Rattle.ed_sending.proofs.Elisions.ElisionSigns.{filter_get, raised_old, shown_signs, signed_by, slot_sign}
use Rattle.ed_layers.specs.Texts.{text_over}

-- the hidden places once the source has stepped, or stayed
abbrev pub flags_then : ℕ → List Bool → Option SourceStep → List Bool
flags_then carrier flags o = option_map_or (λ s. flags_after carrier s flags) o flags

-- a way that ends with a pair of the carrier goes through it
ends_names : (carrier : ℕ) (test : ℕ → Bool) (way : List (ℕ × ℕ)) → ends_with carrier test way ≡ true → names carrier way ≡ true
ends_names carrier test [] e = absurd (let z : false ≡ true = e in cc)
ends_names carrier test (p ∷ []) e = either (nat_eq p.0 carrier) (test p.1) e
  where
    either : (a b : Bool) → (a && b) ≡ true → (a || false) ≡ true
    either true b e = refl
    either false b e = absurd (let z : false ≡ true = e in cc)
ends_names carrier test (p ∷ q ∷ ps) e = or_right (nat_eq p.0 carrier) (names carrier (q ∷ ps)) (ends_names carrier test (q ∷ ps) e)
  where
    or_right : (a b : Bool) → b ≡ true → (a || b) ≡ true
    or_right true b e = refl
    or_right false b e = e

get_map_places : (f : ℕ → Bool) (p n d : ℕ) → d < n → slice_get (map f (range_with_len p n)) d ≡ Some (f (p + d))
get_map_places f p zero d below = absurd (omega arith)
get_map_places f p (suc n) zero below = ap (λ z. Some (f z)) (let e : p ≡ p + 0 = omega arith in e)
get_map_places f p (suc n) (suc d) below = get_map_places f (p + 1) n d (omega arith) ∙ ap (λ z. Some (f z)) (let e : p + 1 + d ≡ p + suc d = omega arith in e)

shown_hidden : (flags : List Bool) (p : ℕ) → p < length flags → is_shown flags p ≡ not (is_hidden flags p)
shown_hidden [] p below = absurd (omega arith)
shown_hidden (b ∷ bs) zero below = refl
shown_hidden (b ∷ bs) (suc p) below = shown_hidden bs p (omega arith)

-- ---- texts

abbrev unit_at : List ℕ → ℕ → ℕ
unit_at text q = unwrap_or (slice_get text q) 0

range_units : (text : List ℕ) (p n : ℕ) → p + n ≤ length text → slice_range text p (p + n) ≡ map (unit_at text) (range_with_len p n)
range_units text p n within = ap (λ k. take k (drop p text)) (let e : p + n - p ≡ n = omega arith in e) ∙ taken p n text within
  where
    later : (u : ℕ) (us : List ℕ) (p n : ℕ) → map (unit_at us) (range_with_len p n) ≡ map (unit_at (u ∷ us)) (range_with_len (suc p) n)
    later u us p zero = refl
    later u us p (suc n) = ap (λ z. unit_at us p ∷ z) (ap (λ k. map (unit_at us) (range_with_len k n)) (let e : p + 1 ≡ suc p = omega arith in e) ∙ later u us (suc p) n ∙ ap (λ k. map (unit_at (u ∷ us)) (range_with_len k n)) (let e : suc (suc p) ≡ suc p + 1 = omega arith in e))

    taken : (p n : ℕ) (text : List ℕ) → p + n ≤ length text → take n (drop p text) ≡ map (unit_at text) (range_with_len p n)
    taken zero zero text within = refl
    taken zero (suc n) [] within = absurd (omega arith)
    taken zero (suc n) (u ∷ us) within = ap (λ z. u ∷ z) (taken zero n us (omega arith) ∙ later u us 0 n ∙ ap (λ k. map (unit_at (u ∷ us)) (range_with_len k n)) (let e : suc 0 ≡ 0 + 1 = omega arith in e))
    taken (suc p) zero [] within = absurd (omega arith)
    taken (suc p) (suc n) [] within = absurd (omega arith)
    taken (suc p) zero (u ∷ us) within = refl
    taken (suc p) (suc n) (u ∷ us) within = taken p (suc n) us (omega arith) ∙ later u us p (suc n)

-- members in line show the units at their places
line_units : (texts : ℕ → List ℕ) (source : ℕ) (xs : List Span) → Each (λ x. end_of x ≤ length (texts source)) xs → text_over texts (map (tracked source) xs) ≡ map (unit_at (texts source)) (places_of xs)
line_units texts source [] inside = refl
line_units texts source (x ∷ xs) inside =
    ap (λ z. z ++ text_over texts (map (tracked source) xs)) (range_units (texts source) x.start x.len inside.0)
    ∙ ap (λ z. map (unit_at (texts source)) (range_with_len x.start x.len) ++ z) (line_units texts source xs inside.1)
    ∙ sym (map-append (unit_at (texts source)) (range_with_len x.start x.len) (places_of xs))

-- The text of an elision buffer has the units that it shows.
pub shown_units : (texts : ℕ → List ℕ) (source : ℕ) (flags : List Bool) → length (texts source) ≡ length flags → text_over texts (map (tracked source) (runs (is_shown flags) (length flags))) ≡ map (unit_at (texts source)) (filter (is_shown flags) (places (length flags)))
shown_units texts source flags size =
    line_units texts source (runs (is_shown flags) (length flags)) (subst (λ n. Each (λ x. end_of x ≤ n) (runs (is_shown flags) (length flags))) (sym size) (runs_end (is_shown flags) (length flags)))
    ∙ ap (map (unit_at (texts source))) (sym (runs_places (is_shown flags) (length flags)))

-- ---- the step

signed_step : (s : SourceStep) (fs : List Full) → IsSigned s (map sign_of fs) → IsStepTo s fs
signed_step s fs signed = record {
  new_len = signed.new_len ∙ length-map fs sign_of;
  kept = signed.kept ∙ ap (λ z. pairs_from 0 z) (map_twice (λ (f : Sign). f.0) sign_of fs);
  trails = signed.trails ∙ map_twice (λ (f : Sign). f.1) sign_of fs;
}

module _ (carrier source : ℕ) (flags : List Bool) (resolver : Option CutRules) (pieces : List Piece) (texts : ℕ → List ℕ) (size : length (texts source) ≡ length flags) where
  abbrev pieces_own : List Piece
  pieces_own = own carrier source flags resolver pieces texts size

  abbrev F : List Full
  F = full_text (own carrier source flags resolver pieces texts size) (texts source)

  -- a unit is shown after just where it was, or is the buffer's own, whatever lies around it
  abbrev Decides : Full → Type 0
  Decides f = (b : Bool) → not (option_map_or (is_hidden flags) f.0 (b && not (names carrier f.1.1))) ≡ shows_sign carrier flags (sign_of f)

  all_decide : Each Decides F
  all_decide = woven_each Decides (λ g. map put_in (put_at (own carrier source flags resolver pieces texts size) g)) (gone_at (own carrier source flags resolver pieces texts size)) 0 (old_units 0 (texts source))
      (λ q. put_in_each Decides (put_at (own carrier source flags resolver pieces texts size) q) (put_each (λ m. Decides (None, m)) (own carrier source flags resolver pieces texts size) q
      (each_more (IsFor carrier (ms carrier source flags resolver pieces texts size) source) (λ p. (u : ℕ) → Decides (None, (u, p.trail))) (own carrier source flags resolver pieces texts size) (λ p h u b. one p h b) (all_for carrier (ms carrier source flags resolver pieces texts size) resolver source (parts carrier source flags resolver pieces texts size)))))
      (old_each Decides 0 (texts source) (λ q u above below b. sym (or_false (is_shown flags q) ∙ shown_hidden flags q (omega (arith, size)))))
    where
      or_false : (b : Bool) → (b || false) ≡ b
      or_false true = refl
      or_false false = refl

      one : (p : Piece) → IsFor carrier (ms carrier source flags resolver pieces texts size) source p → (b : Bool) → not (b && not (names carrier p.trail)) ≡ ends_at carrier p.trail
      one p h b =
          let c : nat_eq carrier carrier ≡ true = grind (arith, nat_tests) in
          let ends : ends_at carrier p.trail ≡ true = ends_last carrier (λ i. true) p.trail (carrier, h.member) h.last ∙ (rw c refl) in
          let named : names carrier p.trail ≡ true = ends_names carrier (λ i. true) p.trail ends in
          ap (λ z. not (b && not z)) named ∙ no b ∙ sym ends
        where
          no : (b : Bool) → not (b && not true) ≡ true
          no true = refl
          no false = refl

  or_not : (b : Bool) → b ≡ (b || false)
  or_not true = refl
  or_not false = refl

  -- Its source stepped by its own pieces alone, or stayed as it was.
  module _ (steps : ℕ → Option SourceStep) (by_own : StepsBy (steps source) pieces_own (texts source)) (cuts : AllCutsRise (ms carrier source flags resolver pieces texts size) resolver (parts carrier source flags resolver pieces texts size)) where
    abbrev pub after : List Bool
    after = flags_then carrier flags (steps source)

    many : (o : Option SourceStep) → StepsBy o pieces_own (texts source) → length (flags_then carrier flags o) ≡ length F
    many None same = sym size ∙ sym (length_old 0 (texts source)) ∙ ap (λ z. length z) (sym same)
    many (Some s) step = length_flags_after carrier s flags ∙ step.new_len

    -- what is shown then is what was shown, and its own
    shown_by : (o : Option SourceStep) → StepsBy o pieces_own (texts source) → (d : ℕ) (f : Full) → slice_get F d ≡ Some f → is_shown (flags_then carrier flags o) d ≡ shows_sign carrier flags (sign_of f)
    shown_by None same d f is =
        let tells : (f.0 ≡ Some (0 + d)) × (f.1.1 ≡ []) = old_tells 0 d (texts source) f (ap (λ z. slice_get z d) (sym same) ∙ is) in
        let sign : sign_of f ≡ (Some d, []) = ap (λ z. (z, f.1.1)) tells.0 ∙ ap (λ z. (Some (0 + d), z)) tells.1 ∙ ap (λ n. (Some n, [])) (let e : 0 + d ≡ d = omega arith in e) in
        or_not (is_shown flags d) ∙ ap (shows_sign carrier flags) (sym sign)
    shown_by (Some s) step d f is =
        let kept : kept_from s.step d ≡ f.0 = kept_from_is s F d f step is in
        let trail : trail_at s d ≡ f.1.1 = trail_at_is s F d f step is in
        let below : d < s.step.new_len = (let l : d < length F = slice_get_within F d f is in let e : s.step.new_len ≡ length F = step.new_len in omega arith) in
        let got : slice_get (flags_after carrier s flags) d ≡ Some (hidden_after carrier s flags d) = get_map_places (hidden_after carrier s flags) 0 s.step.new_len d below ∙ ap (λ z. Some (hidden_after carrier s flags z)) (let e : 0 + d ≡ d = omega arith in e) in
        ap (λ o. option_map_or not o false) got
        ∙ ap (λ o. not (option_map_or (is_hidden flags) o (among_hidden flags (kept_left s d) (kept_right s d) && not (names carrier (trail_at s d))))) kept
        ∙ ap (λ z. not (option_map_or (is_hidden flags) f.0 (among_hidden flags (kept_left s d) (kept_right s d) && not (names carrier z)))) trail
        ∙ each_got Decides F d f all_decide is (among_hidden flags (kept_left s d) (kept_right s d))

    -- what is so at each place of the new text, for those that are shown
    shown_read : {Y : Type 0} (G : ℕ → Y) (R : Full → Y) → ((d : ℕ) (f : Full) → slice_get F d ≡ Some f → G d ≡ R f) → map G (filter (is_shown after) (places (length after))) ≡ map R (filter (λ f. shows_sign carrier flags (sign_of f)) F)
    shown_read G R same =
        ap (λ n. map G (filter (is_shown after) (range_with_len 0 n))) (many (steps source) by_own)
        ∙ filter_get (is_shown after) (λ (f : Full). shows_sign carrier flags (sign_of f)) G R 0 F (λ d f is. (let e : 0 + d ≡ d = omega arith in (ap (is_shown after) e ∙ shown_by (steps source) by_own d f is, ap G e ∙ same d f is)))

    tells_all : Tells (steps source) F
    tells_all = step_tells (steps source) pieces_own (texts source) by_own

    new_signs : map (slot_sign carrier source flags resolver pieces texts size steps) (map (slot_of 0 (Some source)) (filter (is_shown after) (places (length after)))) ≡ map sign_of (full_text pieces (text_over texts (ms carrier source flags resolver pieces texts size)))
    new_signs =
        shown_signs carrier source flags resolver pieces texts size steps after
        ∙ shown_read (λ q. ranked carrier source flags (sign_at (steps source) q)) (λ (f : Full). ranked carrier source flags (sign_of f)) (λ d f is. (let t = tells_all d f is in ap (λ z. ranked carrier source flags (z, trail_told (steps source) d)) t.0 ∙ ap (λ z. ranked carrier source flags (f.0, z)) t.1))
        ∙ ranked_full carrier source flags resolver pieces texts size cuts

    -- It steps by the pieces that arrived there.
    pub elision_steps : (v w : ℕ) → IsStepTo (record { step = carrier_step all_stay steps (elision flags source v) (elision after source w); trails = record_trails carrier true steps (elision after source w) }) (full_text pieces (text_over texts (ms carrier source flags resolver pieces texts size)))
    elision_steps v w =
        signed_step (record { step = carrier_step all_stay steps (elision flags source v) (elision after source w); trails = record_trails carrier true steps (elision after source w) }) (full_text pieces (text_over texts (ms carrier source flags resolver pieces texts size)))
        (subst (λ z. IsSigned (record { step = carrier_step all_stay steps (elision flags source v) (elision after source w); trails = record_trails carrier true steps (elision after source w) }) z) new_signs (signed_by carrier source flags resolver pieces texts size steps after v w))

    -- Where its source stayed, what arrived does nothing.
    pub elision_stays : steps source ≡ None → full_text pieces (text_over texts (ms carrier source flags resolver pieces texts size)) ≡ old_units 0 (text_over texts (ms carrier source flags resolver pieces texts size))
    elision_stays none =
        sym (raised_full carrier source flags resolver pieces texts size cuts)
        ∙ ap (λ z. map (raised carrier source flags) (filter (λ f. shows_sign carrier flags (sign_of f)) z)) (subst (λ o. StepsBy o pieces_own (texts source)) none by_own)
        ∙ raised_old carrier source flags texts size

    -- Its new text, read off the new text of its source, is the old one with what the pieces put in and take away.
    pub elision_text : (news : ℕ → List ℕ) → news source ≡ map unit_of F → text_over news (map (tracked source) (runs (is_shown after) (length after))) ≡ map unit_of (full_text pieces (text_over texts (ms carrier source flags resolver pieces texts size)))
    elision_text news new =
        let long : length (news source) ≡ length after = ap (λ z. length z) new ∙ length-map F unit_of ∙ sym (many (steps source) by_own) in
        shown_units news source after long
        ∙ shown_read (unit_at (news source)) unit_of (λ d f is. ap (λ z. unwrap_or (slice_get z d) 0) new ∙ ap (λ o. unwrap_or o 0) (get_map unit_of F d f is))
        ∙ sym (map_twice unit_of (raised carrier source flags) (filter (λ (f : Full). shows_sign carrier flags (sign_of f)) F))
        ∙ ap (map unit_of) (raised_full carrier source flags resolver pieces texts size cuts)
