-- The step of an elision buffer, beside the pieces that arrived there. Other carriers may send to the same source.
use Rattle.std.proofs.Common.{◌≡◌, ℕ, zero, suc, ◌+◌, ◌≤◌, Bool, true, false, ◌||◌, List, [], ◌∷◌, length, map, filter, Option, Some, None, refl, sym, ap, ◌∙◌, arith, subst, if◌then◌else◌}
use Rattle.std.specs.Prelude.{nat_eq, position, option_map, option_and_then}
use Rattle.std.specs.Option.{option_map_or}
use Rattle.std.specs.List.{range_with_len, list_any, position_from}
use Rattle.std.proofs.lemmas.Iterator.Adapters.{position_from-zero}
use Rattle.ed_base.specs.declared.piece.Piece.{Piece}
use Rattle.ed_base.specs.Hooks.{CutRules}
use Rattle.ed_base.specs.Numbers.{places}
use Rattle.ed_base.specs.Step.{pairs_from}
use Rattle.ed_layers.specs.CarrierStep.{Slot, is_same_slot, slot_before, slot_trail, carrier_step, record_trails, all_stay}
use Rattle.ed_layers.specs.Records.{elision, is_shown, tracked}
use Rattle.ed_layers.specs.SourceStep.{SourceStep, trail_at, trail_above, without_last}
use Rattle.ed_base.specs.declared.piece.Member.{Member}
use Rattle.ed_base.specs.Runs.{runs}
use Rattle.ed_layers.specs.Pieces.{arrived}
use Rattle.ed_layers.specs.Sending.{sent}
use Rattle.ed_stock.specs.Landing.{pieces_at}
use Rattle.std.proofs.lemmas.List.{length-map}
use Rattle.std.specs.Prelude.{slice_get}
use Rattle.ed_sending.proofs.Carriers.NothingArrived.{nothing_arrived, nothing_full}
use Rattle.ed_sending.proofs.Carriers.ProjectionStep.{old_tells}
use Rattle.ed_sending.proofs.Members.SourceParts.{length_old}
use Rattle.ed_sending.proofs.Texts.FullText.{Full, full_text, old_units}
use Rattle.ed_sending.proofs.Carriers.CarrierText.{AllCutsRise}
use Rattle.ed_sending.proofs.Carriers.SlotReadings.{map_twice, place_told, trail_told}
use Rattle.ed_sending.proofs.Carriers.SlotPlaces.{slot_of}
use Rattle.ed_sending.proofs.Texts.FilteredText.{passing, full_passing}
use Rattle.ed_sending.proofs.Lists.Subsequences.{Sub, sub_trans, sub_map, sub_filter, filter_sub, filter_map_is}
use Rattle.ed_sending.proofs.Shared.SourceSigns.{Sign, sign_of, is_told, IsSigned, IsSignedBy, Comes, sign_at, signs_tell, signs_past, ends_at, range_sub, map_get, map_alike, sub_both}
use Rattle.ed_sending.proofs.Elisions.ShownUnits.{shows_sign, ranked, among_filter}
use Rattle.ed_sending.proofs.Elisions.Ranks.{ms, parts, own, raised, raised_full, ranked_full}
use Rattle.ed_layers.specs.Texts.{text_over}

not_placed : (source o k : ℕ) (xs : List ℕ) → list_any (λ x. nat_eq o x) xs ≡ false → position_from (is_same_slot (slot_of 0 (Some source) o)) k (map (slot_of 0 (Some source)) xs) ≡ None
not_placed source o k [] none = refl
not_placed source o k (x ∷ xs) none = by (nat_eq o x) refl none (λ e. not_placed source o (k + 1) xs e)
  where
    by : (b : Bool) → nat_eq o x ≡ b → (b || list_any (λ x. nat_eq o x) xs) ≡ false → (list_any (λ x. nat_eq o x) xs ≡ false → position_from (is_same_slot (slot_of 0 (Some source) o)) (k + 1) (map (slot_of 0 (Some source)) xs) ≡ None) → position_from (is_same_slot (slot_of 0 (Some source) o)) k (map (slot_of 0 (Some source)) (x ∷ xs)) ≡ None
    by true e none more = absurd (let z : true ≡ false = none in cc)
    by false e none more = rw e (more none)

-- what is told of above is shown and told of below
ranked_shown : (carrier source : ℕ) (flags : List Bool) (f : Sign) → is_told (ranked carrier source flags f) ≡ true → (shows_sign carrier flags f ≡ true) × (is_told f ≡ true)
ranked_shown carrier source flags (None, way) e = by (ends_at carrier way) refl way e
  where
    by : (b : Bool) → ends_at carrier way ≡ b → (w : List (ℕ × ℕ)) → is_told (None, (if b then without_last w else [])) ≡ true → (b ≡ true) × (is_told (None, w) ≡ true)
    by true t [] e = (refl, e)
    by true t (p ∷ ps) e = (refl, refl)
    by false t w e = absurd (let z : false ≡ true = e in cc)
ranked_shown carrier source flags (Some o, way) e = (by (is_shown flags o) (ends_at carrier way) refl e, refl)
  where
    old : List ℕ
    old = filter (is_shown flags) (places (length flags))

    by : (b c : Bool) → is_shown flags o ≡ b → is_told (position (is_same_slot (slot_of 0 (Some source) o)) (map (slot_of 0 (Some source)) (filter (is_shown flags) (places (length flags)))), (if c then without_last way else [])) ≡ true → (b || c) ≡ true
    by true c t e = refl
    by false true t e = refl
    by false false t e =
        let none : list_any (λ x. nat_eq o x) (filter (is_shown flags) (places (length flags))) ≡ false = among_filter (is_shown flags) o (places (length flags)) ∙ (rw t refl) in
        let p : position (is_same_slot (slot_of 0 (Some source) o)) (map (slot_of 0 (Some source)) (filter (is_shown flags) (places (length flags)))) ≡ None = position_from-zero (is_same_slot (slot_of 0 (Some source) o)) (map (slot_of 0 (Some source)) (filter (is_shown flags) (places (length flags)))) ∙ not_placed source o 0 (filter (is_shown flags) (places (length flags))) none in
        absurd (let z : false ≡ true = sym (ap (λ q. is_told (q, [])) p) ∙ e in cc)

-- a place that isn't there isn't shown
shown_there : (flags : List Bool) (q : ℕ) → length flags ≤ q → is_shown flags q ≡ false
shown_there [] q above = refl
shown_there (b ∷ bs) zero above = absurd (omega arith)
shown_there (b ∷ bs) (suc q) above = shown_there bs q (omega arith)

-- places that pass, and elements that pass
pub filter_get : {X Y : Type 0} (t : ℕ → Bool) (h : X → Bool) (G : ℕ → Y) (R : X → Y) (p : ℕ) (xs : List X) → ((d : ℕ) (x : X) → slice_get xs d ≡ Some x → (t (p + d) ≡ h x) × (G (p + d) ≡ R x)) → map G (filter t (range_with_len p (length xs))) ≡ map R (filter h xs)
filter_get t h G R p [] same = refl
filter_get {X = X} {Y = Y} t h G R p (x ∷ xs) same = either (h x) (e ∙ (same 0 x refl).0) (ap G z ∙ (same 0 x refl).1) (filter_get t h G R (p + 1) xs (λ d y is. (ap t (next d) ∙ (same (suc d) y is).0, ap G (next d) ∙ (same (suc d) y is).1)))
  where
    z : p ≡ p + 0
    z = omega arith

    e : t p ≡ t (p + 0)
    e = ap t z

    next : (d : ℕ) → p + 1 + d ≡ p + suc d
    next d = omega arith

    either : (b : Bool) → t p ≡ b → G p ≡ R x → map G (filter t (range_with_len (p + 1) (length xs))) ≡ map R (filter h xs) → map G (if t p then p ∷ filter t (range_with_len (p + 1) (length xs)) else filter t (range_with_len (p + 1) (length xs))) ≡ map R (if b then x ∷ filter h xs else filter h xs)
    either true tp g rest = rw tp (ap (λ y. y ∷ map G (filter t (range_with_len (p + 1) (length xs)))) g ∙ ap (λ y. R x ∷ y) rest)
    either false tp g rest = rw tp rest

module _ (carrier source : ℕ) (flags : List Bool) (resolver : Option CutRules) (pieces : List Piece) (texts : ℕ → List ℕ) (size : length (texts source) ≡ length flags) (steps : ℕ → Option SourceStep) where
  abbrev pub slot_sign : Slot → Sign
  slot_sign slot = (option_and_then (λ before. position (is_same_slot before) (map (slot_of 0 (Some source)) (filter (is_shown flags) (places (length flags))))) (slot_before all_stay steps slot), slot_trail carrier true steps slot)

  pub slot_ranked : (q : ℕ) → slot_sign (slot_of 0 (Some source) q) ≡ ranked carrier source flags (sign_at (steps source) q)
  slot_ranked q = ap (λ z. (z, slot_trail carrier true steps (slot_of 0 (Some source) q))) (at (place_told (steps source) q)) ∙ ap (λ z. (option_and_then (λ o. position (is_same_slot (slot_of 0 (Some source) o)) (map (slot_of 0 (Some source)) (filter (is_shown flags) (places (length flags))))) (place_told (steps source) q), z)) (told (steps source))
    where
      at : (p : Option ℕ) → option_and_then (λ before. position (is_same_slot before) (map (slot_of 0 (Some source)) (filter (is_shown flags) (places (length flags))))) (option_map (λ p. slot_of 0 (Some source) p) p) ≡ option_and_then (λ o. position (is_same_slot (slot_of 0 (Some source) o)) (map (slot_of 0 (Some source)) (filter (is_shown flags) (places (length flags))))) p
      at None = refl
      at (Some p) = refl

      told : (o : Option SourceStep) → option_map_or (λ s. trail_above carrier (λ i. true) (trail_at s q)) o [] ≡ trail_above carrier (λ i. true) (trail_told o q)
      told None = refl
      told (Some s) = refl

  -- the signs of the units that flags show
  pub shown_signs : (flags' : List Bool) → map slot_sign (map (slot_of 0 (Some source)) (filter (is_shown flags') (places (length flags')))) ≡ map (λ q. ranked carrier source flags (sign_at (steps source) q)) (filter (is_shown flags') (places (length flags')))
  shown_signs flags' =
      map_twice slot_sign (slot_of 0 (Some source)) (filter (is_shown flags') (places (length flags')))
      ∙ map_alike (λ q. slot_sign (slot_of 0 (Some source) q)) (λ q. ranked carrier source flags (sign_at (steps source) q)) (filter (is_shown flags') (places (length flags'))) slot_ranked

  -- a step is read off the signs of its units
  pub signed_by : (flags' : List Bool) (v w : ℕ) → IsSigned (record { step = carrier_step all_stay steps (elision flags source v) (elision flags' source w); trails = record_trails carrier true steps (elision flags' source w) }) (map slot_sign (map (slot_of 0 (Some source)) (filter (is_shown flags') (places (length flags')))))
  unfolding carrier_step
  signed_by flags' v w =
      let new : List Slot = map (slot_of 0 (Some source)) (filter (is_shown flags') (places (length flags'))) in
      record {
        new_len = sym (length-map new slot_sign);
        kept = ap (λ z. pairs_from 0 z) (sym (map_twice (λ (f : Sign). f.0) slot_sign new));
        trails = sym (map_twice (λ (f : Sign). f.1) slot_sign new);
      }

  -- nothing past the source's new text is told of
  past_told : (o : Option SourceStep) (fs : List Sign) → IsSignedBy o (texts source) fs → (q : ℕ) → length fs ≤ q → is_told (ranked carrier source flags (sign_at o q)) ≡ false
  past_told (Some s) fs signed q above = ap (λ z. is_told (ranked carrier source flags z)) (signs_past s fs signed q above)
  past_told None fs same q above = by (is_told (ranked carrier source flags (Some q, []))) refl
    where
      long : length fs ≡ length flags
      long = ap (λ z. length z) same ∙ length-map (old_units 0 (texts source)) sign_of ∙ length_old 0 (texts source) ∙ size

      or_false : (b : Bool) → (b || false) ≡ true → b ≡ true
      or_false true e = refl
      or_false false e = e

      by : (b : Bool) → is_told (ranked carrier source flags (Some q, [])) ≡ b → is_told (ranked carrier source flags (Some q, [])) ≡ false
      by false e = e
      by true e = absurd (let t : is_shown flags q ≡ true = or_false (is_shown flags q) (ranked_shown carrier source flags (Some q, []) e).0 in let f : is_shown flags q ≡ false = shown_there flags q (omega (arith, long, above)) in let z : true ≡ false = sym t ∙ f in cc)

  -- whatever is hidden then
  pub shown_among : (arrives : List Piece) (flags' : List Bool) → Comes (steps source) arrives (texts source) → passing (ends_at carrier) arrives ≡ own carrier source flags resolver pieces texts size → AllCutsRise (ms carrier source flags resolver pieces texts size) resolver (parts carrier source flags resolver pieces texts size) →
      Sub (filter is_told (map slot_sign (map (slot_of 0 (Some source)) (filter (is_shown flags') (places (length flags')))))) (map sign_of (full_text pieces (text_over texts (ms carrier source flags resolver pieces texts size))))
  shown_among arrives flags' comes given cuts =
      subst (λ z. Sub (filter is_told (map slot_sign (map (slot_of 0 (Some source)) (filter (is_shown flags') (places (length flags')))))) z) (ranked_full carrier source flags resolver pieces texts size cuts)
      (subst (λ z. Sub (filter is_told z) (map (λ (f : Full). ranked carrier source flags (sign_of f)) T)) (sym (shown_signs flags')) chain)
    where
      fs : List Sign
      fs = comes.signs

      R : Sign → Sign
      R = ranked carrier source flags

      G : ℕ → Sign
      G q = ranked carrier source flags (sign_at (steps source) q)

      H : Sign → Bool
      H = shows_sign carrier flags

      shown : List ℕ
      shown = filter (is_shown flags') (places (length flags'))

      all : List ℕ
      all = range_with_len 0 (length comes.signs)

      F : List Full
      F = full_text (own carrier source flags resolver pieces texts size) (texts source)

      T : List Full
      T = filter (λ (f : Full). shows_sign carrier flags (sign_of f)) F

      one : Sub (filter is_told (map G shown)) (filter is_told (map G (places (length flags'))))
      one = sub_filter is_told (map G shown) (map G (places (length flags'))) (sub_map G shown (places (length flags')) (filter_sub (is_shown flags') (places (length flags'))))

      two : Sub (filter is_told (map G (places (length flags')))) (filter is_told (map G all))
      two = subst (λ z. Sub z (filter is_told (map G all))) (sym (filter_map_is G is_told (places (length flags'))))
          (subst (λ z. Sub (map G (filter (λ q. is_told (G q)) (places (length flags')))) z) (sym (filter_map_is G is_told all))
          (sub_map G (filter (λ q. is_told (G q)) (places (length flags'))) (filter (λ q. is_told (G q)) all)
          (range_sub (λ q. is_told (G q)) 0 (length comes.signs) 0 (length flags') (omega arith) (λ q above. past_told (steps source) comes.signs comes.signed q (omega arith)))))

      same : map R fs ≡ map G all
      same = map_get R G 0 fs (λ d f is. ap R (sym (signs_tell (steps source) (texts source) fs comes.signed d f is)) ∙ ap G (let e : d ≡ 0 + d = omega arith in e))

      three : Sub (filter is_told (map R fs)) (map R (filter H (filter is_told fs)))
      three = subst (λ z. Sub z (map R (filter H (filter is_told fs)))) (sym (filter_map_is R is_told fs))
          (sub_map R (filter (λ f. is_told (R f)) fs) (filter H (filter is_told fs)) (sub_both (λ f. is_told (R f)) H is_told fs (λ f t. ranked_shown carrier source flags f t)))

      four : Sub (filter H (filter is_told fs)) (map sign_of T)
      four = sub_trans (filter H (filter is_told fs)) (map sign_of (filter (λ (f : Full). H (sign_of f)) (full_text arrives (texts source)))) (map sign_of T)
          (subst (λ z. Sub (filter H (filter is_told fs)) z) (filter_map_is sign_of H (full_text arrives (texts source))) (sub_filter H (filter is_told fs) (map sign_of (full_text arrives (texts source))) comes.among))
          (sub_map sign_of (filter (λ (f : Full). H (sign_of f)) (full_text arrives (texts source))) T
          (subst (λ z. Sub (filter (λ (f : Full). H (sign_of f)) (full_text arrives (texts source))) (filter (λ (f : Full). H (sign_of f)) (full_text z (texts source)))) given (full_passing (λ (f : Full). H (sign_of f)) (ends_at carrier) (λ m e. e) arrives (texts source))))

      chain : Sub (filter is_told (map G shown)) (map (λ (f : Full). ranked carrier source flags (sign_of f)) T)
      chain =
          sub_trans (filter is_told (map G shown)) (filter is_told (map G (places (length flags')))) (map (λ (f : Full). ranked carrier source flags (sign_of f)) T) one
          (sub_trans (filter is_told (map G (places (length flags')))) (filter is_told (map G all)) (map (λ (f : Full). ranked carrier source flags (sign_of f)) T) two
          (subst (λ z. Sub (filter is_told z) (map (λ (f : Full). ranked carrier source flags (sign_of f)) T)) same
          (sub_trans (filter is_told (map R fs)) (map R (filter H (filter is_told fs))) (map (λ (f : Full). ranked carrier source flags (sign_of f)) T) three
          (subst (λ z. Sub (map R (filter H (filter is_told fs))) z) (map_twice R sign_of T) (sub_map R (filter H (filter is_told fs)) (map sign_of T) four)))))

  -- The step of an elision buffer, whatever is hidden then.
  pub elision_comes : (arrives : List Piece) (flags' : List Bool) (v w : ℕ) → Comes (steps source) arrives (texts source) → passing (ends_at carrier) arrives ≡ own carrier source flags resolver pieces texts size → AllCutsRise (ms carrier source flags resolver pieces texts size) resolver (parts carrier source flags resolver pieces texts size) →
      Comes (Some (record { step = carrier_step all_stay steps (elision flags source v) (elision flags' source w); trails = record_trails carrier true steps (elision flags' source w) })) pieces (text_over texts (ms carrier source flags resolver pieces texts size))
  elision_comes arrives flags' v w comes given cuts = record {
    signs = map slot_sign (map (slot_of 0 (Some source)) (filter (is_shown flags') (places (length flags'))));
    signed = signed_by flags' v w;
    among = shown_among arrives flags' comes given cuts;
  }

-- ---- its source didn't step

-- what is shown of a text that stays is the old text
pub raised_old : (carrier source : ℕ) (flags : List Bool) (texts : ℕ → List ℕ) → length (texts source) ≡ length flags → map (raised carrier source flags) (filter (λ f. shows_sign carrier flags (sign_of f)) (old_units 0 (texts source))) ≡ old_units 0 (text_over texts (map (tracked source) (runs (is_shown flags) (length flags))))
raised_old carrier source flags texts size =
    let members : List Member = map (tracked source) (runs (is_shown flags) (length flags)) in
    let text : List ℕ = text_over texts members in
    let none : arrived [] (length text) ≡ [] = nothing_arrived (length text) in
    let cuts : AllCutsRise members None (arrived [] (length text)) = subst (AllCutsRise members None) (sym none) tt in
    ap (λ z. map (raised carrier source flags) (filter (λ f. shows_sign carrier flags (sign_of f)) z)) (sym (ap (λ cs. full_text (pieces_at (sent carrier members None cs) source) (texts source)) none ∙ nothing_full (texts source)))
    ∙ raised_full carrier source flags None [] texts size cuts
    ∙ nothing_full text

-- an elision buffer whose source didn't step doesn't step either
pub still_elision : (carrier source : ℕ) (flags : List Bool) (resolver : Option CutRules) (pieces : List Piece) (texts : ℕ → List ℕ) (size : length (texts source) ≡ length flags) (steps : ℕ → Option SourceStep) → steps source ≡ None → (arrives : List Piece) →
    Comes (steps source) arrives (texts source) → passing (ends_at carrier) arrives ≡ own carrier source flags resolver pieces texts size → AllCutsRise (ms carrier source flags resolver pieces texts size) resolver (parts carrier source flags resolver pieces texts size) →
    Comes None pieces (text_over texts (ms carrier source flags resolver pieces texts size))
still_elision carrier source flags resolver pieces texts size steps none arrives comes given cuts = record {
  signs = map sign_of (old_units 0 text);
  signed = refl;
  among = subst (λ z. Sub (filter is_told z) (map sign_of (full_text pieces text))) stay (shown_among carrier source flags resolver pieces texts size steps arrives flags comes given cuts);
}
  where
    text : List ℕ
    text = text_over texts (ms carrier source flags resolver pieces texts size)

    many : length flags ≡ length (old_units 0 (texts source))
    many = sym size ∙ sym (length_old 0 (texts source))

    or_false : (b : Bool) → b ≡ (b || false)
    or_false true = refl
    or_false false = refl

    each_place : (d : ℕ) (f : Full) → slice_get (old_units 0 (texts source)) d ≡ Some f → (is_shown flags (0 + d) ≡ shows_sign carrier flags (sign_of f)) × (ranked carrier source flags (sign_at None (0 + d)) ≡ ranked carrier source flags (sign_of f))
    each_place d f is =
        let tells : (f.0 ≡ Some (0 + d)) × (f.1.1 ≡ []) = old_tells 0 d (texts source) f is in
        let same : sign_of f ≡ (Some (0 + d), []) = ap (λ z. (z, f.1.1)) tells.0 ∙ ap (λ z. (Some (0 + d), z)) tells.1 in
        (or_false (is_shown flags (0 + d)) ∙ ap (shows_sign carrier flags) (sym same), ap (ranked carrier source flags) (sym same))

    stay : map (slot_sign carrier source flags resolver pieces texts size steps) (map (slot_of 0 (Some source)) (filter (is_shown flags) (places (length flags)))) ≡ map sign_of (old_units 0 text)
    stay =
        shown_signs carrier source flags resolver pieces texts size steps flags
        ∙ ap (λ o. map (λ q. ranked carrier source flags (sign_at o q)) (filter (is_shown flags) (places (length flags)))) none
        ∙ ap (λ n. map (λ q. ranked carrier source flags (sign_at None q)) (filter (is_shown flags) (range_with_len 0 n))) many
        ∙ filter_get (is_shown flags) (λ (f : Full). shows_sign carrier flags (sign_of f)) (λ q. ranked carrier source flags (sign_at None q)) (λ (f : Full). ranked carrier source flags (sign_of f)) 0 (old_units 0 (texts source)) each_place
        ∙ sym (map_twice sign_of (raised carrier source flags) (filter (λ (f : Full). shows_sign carrier flags (sign_of f)) (old_units 0 (texts source))))
        ∙ ap (map sign_of) (raised_old carrier source flags texts size)
