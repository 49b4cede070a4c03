-- A projection whose sources others may send to: what is kept or its own stands there in the order of what arrived.
use Rattle.std.proofs.Common.{◌≡◌, ℕ, suc, ◌+◌, ◌-◌, ◌≤◌, true, false, List, [], ◌∷◌, ◌++◌, length, map, take, drop, filter, Option, Some, None, refl, sym, ap, ◌∙◌, arith, subst, append_assoc, length-append, if◌then◌else◌}
use Rattle.std.specs.Prelude.{nat_eq, slice_get, slice_range, sum_by, option_map, option_and_then, position}
use Rattle.std.specs.Option.{option_map_or}
use Rattle.std.specs.List.{enumerate_from, range_with_len}
use Rattle.std.proofs.lemmas.List.{map-append, take-append-drop, drop-drop, length-take, length-drop}
use Rattle.std.proofs.lemmas.List.Elements.{filter-append}
use Rattle.std.proofs.lemmas.Bool.Decides.{nat_tests}
use Rattle.std.proofs.Math.Seq.{take-append_seam}
use Rattle.ed_base.specs.declared.edit.Span.{Span}
use Rattle.ed_base.specs.declared.mode.SpanMode.{SpanMode}
use Rattle.ed_base.specs.declared.piece.Member.{Member}
use Rattle.ed_base.specs.declared.piece.Piece.{Piece}
use Rattle.ed_base.specs.Hooks.{CutRules}
use Rattle.ed_base.specs.Spans.{end_of, holds_place}
use Rattle.ed_base.specs.Step.{pairs_from}
use Rattle.ed_layers.specs.Bounds.{member_after, members_after}
use Rattle.ed_layers.specs.CarrierStep.{Slot, is_same_slot, member_slots, carrier_step, record_trails, slot_trail, all_stay}
use Rattle.ed_layers.specs.Pieces.{Component, arrived}
use Rattle.ed_layers.specs.Records.{projection, members_len, member_len}
use Rattle.ed_layers.specs.Sending.{sent}
use Rattle.ed_layers.specs.SourceStep.{SourceStep, trail_at, trail_above, without_last}
use Rattle.ed_stock.specs.Landing.{pieces_at}
use Rattle.ed_sending.proofs.Texts.FullText.{Full, old_units, full_text, held_by}
use Rattle.ed_sending.proofs.Carriers.CarrierText.{starts_of, AllCutsRise}
use Rattle.ed_sending.proofs.Members.OwnPieces.{lifted}
use Rattle.ed_sending.proofs.Carriers.MemberParts.{zone_lifted}
use Rattle.ed_sending.proofs.Carriers.SentPieces.{all_for}
use Rattle.ed_sending.proofs.Members.MemberZone.{zone_of, zone_lies, zone_filter}
use Rattle.ed_sending.proofs.Carriers.SlotPlaces.{slot_of, slots_from, placed, where_in}
use Rattle.ed_sending.proofs.Carriers.SlotReadings.{origin_of_slot, literal_origins, literal_trails, ends_same, map_twice, place_told, trail_told}
use Rattle.ed_sending.proofs.Carriers.NewText.{old_parts, parts_text, HaveStepped, SparesLiterals, bounds_after, shown_after, all_shown_after, tracked_shows, carrier_steps}
use Rattle.ed_sending.proofs.Carriers.MemberChunks.{joined}
use Rattle.ed_sending.proofs.Texts.FilteredText.{passing}
use Rattle.ed_sending.proofs.Lists.Subsequences.{Sub, sub_append, filter_sub}
use Rattle.ed_sending.proofs.Shared.SourceSigns.{Sign, sign_of, is_told, Comes, sign_at, risen, ends_at, member_among, risen_lifted, map_alike}
use Rattle.ed_sending.specs.Ready.{AreFitting}
use Rattle.ed_layers.specs.Texts.{member_text, text_over}

-- the step that leads to a text
abbrev pub made : List Full → SourceStep
made fs = record { step = record { old_len = 0; new_len = length fs; kept = pairs_from 0 (map (λ f. f.0) fs) }; trails = map (λ f. f.1.1) fs }

-- what each source of the carrier gets from it, and how it steps by all that arrives there
abbrev pub AreShared : ℕ → List Member → Option CutRules → List Component → (ℕ → List ℕ) → (ℕ → Option SourceStep) → (ℕ → List Piece) → Type 0
AreShared carrier members resolver cs texts steps arrives = (k b : ℕ) (x : Span) (mode : SpanMode) → slice_get members k ≡ Some (Member.Tracked b x mode) → Comes (steps b) (arrives b) (texts b) × (passing (ends_at carrier) (arrives b) ≡ pieces_at (sent carrier members resolver cs) b)

abbrev pub sign_slot : ℕ → (ℕ → Option SourceStep) → List Member → Slot → Sign
sign_slot carrier steps members slot = (origin_of_slot steps members slot, slot_trail carrier false steps slot)

-- a place of a source through a member
pub slot_sign : (carrier : ℕ) (steps : ℕ → Option SourceStep) (before after : List Member) (source : ℕ) (x : Span) (mode : SpanMode) (q : ℕ) → sign_slot carrier steps (before ++ Member.Tracked source x mode ∷ after) (slot_of (length before) (Some source) q) ≡ risen carrier (length before) (members_len before) x (sign_at (steps source) q)
slot_sign carrier steps before after source x mode q =
    ap (λ z. (z, slot_trail carrier false steps (slot_of (length before) (Some source) q))) (at (place_told (steps source) q))
    ∙ ap (λ z. (option_and_then (where_in x (members_len before)) (place_told (steps source) q), z)) (sym (above (trail_told (steps source) q) ∙ told (steps source)))
  where
    at : (o : Option ℕ) → option_and_then (λ before'. position (is_same_slot before') (slots_from 0 (before ++ Member.Tracked source x mode ∷ after))) (option_map (λ p. slot_of (length before) (Some source) p) o) ≡ option_and_then (where_in x (members_len before)) o
    at None = refl
    at (Some o) = placed before (Member.Tracked source x mode) after (Some source) o (length before) refl

    above : (way : List (ℕ × ℕ)) → trail_above carrier (nat_eq (length before)) way ≡ trail_above carrier (λ i. if false then true else nat_eq i (length before)) way
    above way = ap (λ z. if z then without_last way else []) (ends_same carrier (length before) way)

    told : (o : Option SourceStep) → trail_above carrier (λ i. if false then true else nat_eq i (length before)) (trail_told o q) ≡ option_map_or (λ s. trail_above carrier (λ i. if false then true else nat_eq i (length before)) (trail_at s q)) o []
    told None = refl
    told (Some s) = refl

pairs_same : (fs : List Full) (ss : List Slot) (f : Slot → Option ℕ) (g : Slot → List (ℕ × ℕ)) → map (λ (z : Full). z.0) fs ≡ map f ss → map (λ (z : Full). z.1.1) fs ≡ map g ss → map (λ s. (f s, g s)) ss ≡ map sign_of fs
pairs_same [] [] f g a b = refl
pairs_same [] (s ∷ ss) f g a b = absurd (let e : [] ≡ f s ∷ map f ss = a in cc)
pairs_same (x ∷ xs) [] f g a b = absurd (let e : x.0 ∷ map (λ (z : Full). z.0) xs ≡ [] = a in cc)
pairs_same (x ∷ xs) (s ∷ ss) f g a b =
    let h : x.0 ≡ f s = cc in
    let t : map (λ (z : Full). z.0) xs ≡ map f ss = cc in
    let i : x.1.1 ≡ g s = cc in
    let u : map (λ (z : Full). z.1.1) xs ≡ map g ss = cc in
    ap (λ z. (z, g s) ∷ map (λ s. (f s, g s)) ss) (sym h) ∙ ap (λ z. (x.0, z) ∷ map (λ s. (f s, g s)) ss) (sym i) ∙ ap (λ z. sign_of x ∷ z) (pairs_same xs ss f g t u)

module _ (carrier : ℕ) (members : List Member) (resolver : Option CutRules) (cs : List Component) (texts : ℕ → List ℕ) (steps : ℕ → Option SourceStep) (arrives : ℕ → List Piece) (shared : AreShared carrier members resolver cs texts steps arrives) (fitting : AreFitting members texts) (spares : SparesLiterals members cs) where
  -- each source as if it got from this carrier alone
  abbrev alone : ℕ → Option SourceStep
  alone b = Some (made (full_text (pieces_at (sent carrier members resolver cs) b) (texts b)))

  have : HaveStepped carrier members resolver cs texts alone
  have k b x mode here = record { new_len = refl; kept = refl; trails = refl }

  one_among : (before : List Member) (m : Member) (after : List Member) → members ≡ before ++ m ∷ after →
      Sub (filter is_told (map (sign_slot carrier steps members) (member_slots (length before, member_after carrier steps members (length before, m))))) (map sign_of (shown_after carrier members resolver cs texts alone (length before) m))
  one_among before (Member.Literal units) after is =
      let start : starts_of members (length before) ≡ members_len before = ap (λ ms. sum_by member_len (take (length before) ms)) is ∙ ap (sum_by member_len) (take-append_seam before (Member.Literal units ∷ after)) in
      let slots : List Slot = member_slots (length before, Member.Literal units) in
      let same : map (sign_slot carrier steps (before ++ Member.Literal units ∷ after)) slots ≡ map sign_of (old_units (members_len before) units) =
      pairs_same (old_units (members_len before) units) slots (origin_of_slot steps (before ++ Member.Literal units ∷ after)) (slot_trail carrier false steps) (literal_origins carrier steps before after units) (literal_trails carrier steps before after units) in
      let whole : map (sign_slot carrier steps members) slots ≡ map sign_of (old_units (starts_of members (length before)) units) =
      ap (λ ms. map (sign_slot carrier steps ms) slots) is ∙ same ∙ ap (λ a. map sign_of (old_units a units)) (sym start) in
      subst (λ z. Sub (filter is_told (map (sign_slot carrier steps members) slots)) z) whole (filter_sub is_told (map (sign_slot carrier steps members) slots))
  one_among before (Member.Tracked source x mode) after is = subst (λ z. Sub (filter is_told (map (sign_slot carrier steps members) (map (slot_of k (Some source)) (range_with_len nb.start nb.len)))) z) all
      (subst (λ z. Sub (filter is_told z) (map (risen carrier k a x) (map sign_of (filter (held_by carrier k x) (full_text (passing (ends_at carrier) (arrives source)) text))))) (sym risen_slots)
      (member_among carrier k a x (steps source) (arrives source) text given.0 within nb.start nb.len))
    where
      k : ℕ
      k = length before

      a : ℕ
      a = starts_of members (length before)

      text : List ℕ
      text = texts source

      nb : Span
      nb = bounds_after carrier steps members (length before) source x mode

      xs : List ℕ
      xs = take x.start text

      ys : List ℕ
      ys = slice_range text x.start (end_of x)

      zs : List ℕ
      zs = drop (x.start + x.len) text

      ps : List Piece
      ps = pieces_at (sent carrier members resolver cs) source

      get : (before : List Member) (m : Member) (after : List Member) → slice_get (before ++ m ∷ after) (length before) ≡ Some m
      get [] m after = refl
      get (b ∷ before) m after = get before m after

      here : slice_get members k ≡ Some (Member.Tracked source x mode)
      here = ap (λ ms. slice_get ms (length before)) is ∙ get before (Member.Tracked source x mode) after

      given : Comes (steps source) (arrives source) text × (passing (ends_at carrier) (arrives source) ≡ ps)
      given = shared k source x mode here

      within : end_of x ≤ length text
      within = fitting.inside k source x mode here

      size : x.start + x.len - x.start ≡ x.len
      size = omega arith

      whole : xs ++ (ys ++ zs) ≡ text
      whole = ap (λ n. xs ++ (take n (drop x.start text) ++ zs)) size ∙ ap (λ z. xs ++ (take x.len (drop x.start text) ++ z)) (sym (drop-drop x.len x.start text)) ∙ ap (λ z. xs ++ z) (take-append-drop x.len (drop x.start text)) ∙ take-append-drop x.start text

      ex : length xs ≡ x.start
      ex = omega (arith, length-take x.start text, within)

      ey : length ys ≡ x.len
      ey = omega (arith, length-take (x.start + x.len - x.start) (drop x.start text), length-drop x.start text, within)

      start : a ≡ members_len before
      start = ap (λ ms. sum_by member_len (take (length before) ms)) is ∙ ap (sum_by member_len) (take-append_seam before (Member.Tracked source x mode ∷ after))

      risen_slots : map (sign_slot carrier steps members) (map (slot_of k (Some source)) (range_with_len nb.start nb.len)) ≡ map (λ q. risen carrier k a x (sign_at (steps source) q)) (range_with_len nb.start nb.len)
      risen_slots =
          map_twice (sign_slot carrier steps members) (slot_of k (Some source)) (range_with_len nb.start nb.len)
          ∙ map_alike (λ q. sign_slot carrier steps members (slot_of k (Some source) q)) (λ q. risen carrier k a x (sign_at (steps source) q)) (range_with_len nb.start nb.len)
          (λ q. ap (λ ms. sign_slot carrier steps ms (slot_of k (Some source) q)) is ∙ slot_sign carrier steps before after source x mode q ∙ ap (λ n. risen carrier k n x (sign_at (steps source) q)) (sym start))

      zone : filter (held_by carrier k x) (full_text ps text) ≡ zone_of carrier members k x ps ys
      zone = ap (λ t. filter (held_by carrier k x) (full_text ps t)) (sym whole) ∙ zone_filter carrier members source k x mode here (fitting.apart source) ps (all_for carrier members resolver source cs) xs ys zs ex ey

      part : map (lifted carrier k a x) (zone_of carrier members k x ps ys) ≡ shown_after carrier members resolver cs texts alone k (Member.Tracked source x mode)
      part = zone_lifted carrier members resolver source k x mode here (fitting.apart source) cs ys ey ∙ sym (tracked_shows carrier members resolver cs texts alone have fitting spares k source x mode here).part

      all : map (risen carrier k a x) (map sign_of (filter (held_by carrier k x) (full_text (passing (ends_at carrier) (arrives source)) text))) ≡ map sign_of (shown_after carrier members resolver cs texts alone k (Member.Tracked source x mode))
      all =
          ap (λ z. map (risen carrier k a x) (map sign_of (filter (held_by carrier k x) (full_text z text)))) given.1
          ∙ ap (λ z. map (risen carrier k a x) (map sign_of z)) zone
          ∙ risen_lifted carrier k a x (zone_of carrier members k x ps ys) (zone_lies carrier members source k x mode here (fitting.apart source) ps ys ey)
          ∙ ap (λ z. map sign_of z) part

  all_among : (k : ℕ) (before ms : List Member) → members ≡ before ++ ms → k ≡ length before →
      Sub (filter is_told (map (sign_slot carrier steps members) (slots_from k (map (member_after carrier steps members) (enumerate_from k ms))))) (map sign_of (all_shown_after carrier members resolver cs texts alone k ms))
  all_among k before [] is at = tt
  all_among k before (m ∷ ms) is at =
      let here : List Slot = member_slots (k, member_after carrier steps members (k, m)) in
      let later : List Slot = slots_from (k + 1) (map (member_after carrier steps members) (enumerate_from (k + 1) ms)) in
      let S : Slot → Sign = sign_slot carrier steps members in
      let one : Sub (filter is_told (map S here)) (map sign_of (shown_after carrier members resolver cs texts alone k m)) =
      subst (λ z. Sub (filter is_told (map S (member_slots (z, member_after carrier steps members (z, m))))) (map sign_of (shown_after carrier members resolver cs texts alone z m))) (sym at) (one_among before m ms is) in
      let rest : Sub (filter is_told (map S later)) (map sign_of (all_shown_after carrier members resolver cs texts alone (k + 1) ms)) =
      all_among (k + 1) (before ++ m ∷ []) ms (is ∙ sym (append_assoc before (m ∷ []) ms)) (omega (arith, at, length-append before (m ∷ []))) in
      let cut : filter is_told (map S (here ++ later)) ≡ filter is_told (map S here) ++ filter is_told (map S later) = ap (filter is_told) (map-append S here later) ∙ filter-append is_told (map S here) (map S later) in
      subst (λ z. Sub z (map sign_of (all_shown_after carrier members resolver cs texts alone k (m ∷ ms)))) (sym cut)
      (subst (λ z. Sub (filter is_told (map S here) ++ filter is_told (map S later)) z) (sym (map-append sign_of (shown_after carrier members resolver cs texts alone k m) (all_shown_after carrier members resolver cs texts alone (k + 1) ms)))
      (sub_append (filter is_told (map S here)) (map sign_of (shown_after carrier members resolver cs texts alone k m)) (filter is_told (map S later)) (map sign_of (all_shown_after carrier members resolver cs texts alone (k + 1) ms)) one rest))

length_map : {X Y : Type 0} (f : X → Y) (xs : List X) → length (map f xs) ≡ length xs
length_map f [] = refl
length_map f (x ∷ xs) = ap (λ n. suc n) (length_map f xs)

-- what is kept or its own
pub slots_among : (carrier : ℕ) (members : List Member) (resolver : Option CutRules) (pieces : List Piece) (texts : ℕ → List ℕ) (steps : ℕ → Option SourceStep) (arrives : ℕ → List Piece) →
    AreShared carrier members resolver (arrived pieces (length (text_over texts members))) texts steps arrives → AreFitting members texts → SparesLiterals members (arrived pieces (length (text_over texts members))) → AllCutsRise members resolver (arrived pieces (length (text_over texts members))) →
    Sub (filter is_told (map (sign_slot carrier steps members) (slots_from 0 (members_after carrier steps members)))) (map sign_of (full_text pieces (text_over texts members)))
slots_among carrier members resolver pieces texts steps arrives shared fitting spares cuts =
    let cs : List Component = arrived pieces (length (text_over texts members)) in
    subst (λ z. Sub (filter is_told (map (sign_slot carrier steps members) (slots_from 0 (members_after carrier steps members)))) (map sign_of z))
    (carrier_steps carrier members resolver pieces texts (alone carrier members resolver cs texts steps arrives shared fitting spares) (have carrier members resolver cs texts steps arrives shared fitting spares) fitting spares cuts)
    (all_among carrier members resolver cs texts steps arrives shared fitting spares 0 [] members refl refl)

-- The step of a projection, beside the pieces that arrived there.
pub projection_comes : (carrier : ℕ) (members : List Member) (resolver : Option CutRules) (pieces : List Piece) (texts : ℕ → List ℕ) (steps : ℕ → Option SourceStep) (arrives : ℕ → List Piece) (from to : List (ℕ × ℕ)) →
    AreShared carrier members resolver (arrived pieces (length (text_over texts members))) texts steps arrives → AreFitting members texts → SparesLiterals members (arrived pieces (length (text_over texts members))) → AllCutsRise members resolver (arrived pieces (length (text_over texts members))) →
    Comes (Some (record { step = carrier_step all_stay steps (projection members from) (projection (members_after carrier steps members) to); trails = record_trails carrier false steps (projection (members_after carrier steps members) to) })) pieces (text_over texts members)
unfolding carrier_step
projection_comes carrier members resolver pieces texts steps arrives from to shared fitting spares cuts =
    let new : List Slot = slots_from 0 (members_after carrier steps members) in
    record {
      signs = map (sign_slot carrier steps members) new;
      signed = record {
        new_len = sym (length_map (sign_slot carrier steps members) new);
        kept = ap (λ z. pairs_from 0 z) (sym (map_twice (λ (f : Sign). f.0) (sign_slot carrier steps members) new));
        trails = sym (map_twice (λ (f : Sign). f.1) (sign_slot carrier steps members) new);
      };
      among = slots_among carrier members resolver pieces texts steps arrives shared fitting spares cuts;
    }

-- ---- no source stepped

risen_old : (carrier k a d : ℕ) (x : Span) (us : List ℕ) → d + length us ≤ x.len → map (λ q. risen carrier k a x (Some q, [])) (range_with_len (x.start + d) (length us)) ≡ map sign_of (old_units (a + d) us)
risen_old carrier k a d x [] within = refl
risen_old carrier k a d x (u ∷ us) within =
    let held : holds_place x (x.start + d) ≡ true = grind (arith, nat_tests) in
    let here : option_and_then (where_in x a) (Some (x.start + d)) ≡ Some (a + d) = (let e : x.start + d - x.start ≡ d = omega arith in rw (held, e) refl) in
    let e : x.start + d + 1 ≡ x.start + (d + 1) = omega arith in
    let f : a + d + 1 ≡ a + (d + 1) = omega arith in
    ap (λ z. (z, []) ∷ map (λ q. risen carrier k a x (Some q, [])) (range_with_len (x.start + d + 1) (length us))) here
    ∙ ap (λ n. (Some (a + d), []) ∷ map (λ q. risen carrier k a x (Some q, [])) (range_with_len n (length us))) e
    ∙ ap (λ z. (Some (a + d), []) ∷ z) (risen_old carrier k a (d + 1) x us (omega arith) ∙ ap (λ n. map sign_of (old_units n us)) (sym f))

module _ (carrier : ℕ) (members : List Member) (texts : ℕ → List ℕ) (steps : ℕ → Option SourceStep) (fitting : AreFitting members texts) (still : (k b : ℕ) (x : Span) (mode : SpanMode) → slice_get members k ≡ Some (Member.Tracked b x mode) → steps b ≡ None) where
  still_len : (k : ℕ) (m : Member) → slice_get members k ≡ Some m → length (member_text texts m) ≡ member_len m
  still_len k (Member.Literal units) here = refl
  still_len k (Member.Tracked source x mode) here =
      let within : end_of x ≤ length (texts source) = fitting.inside k source x mode here in
      omega (arith, length-take (x.start + x.len - x.start) (drop x.start (texts source)), length-drop x.start (texts source))

  one_old : (before : List Member) (m : Member) (after : List Member) → members ≡ before ++ m ∷ after → map (sign_slot carrier steps members) (member_slots (length before, member_after carrier steps members (length before, m))) ≡ map sign_of (old_units (starts_of members (length before)) (member_text texts m))
  one_old before (Member.Literal units) after is =
      let start : starts_of members (length before) ≡ members_len before = ap (λ ms. sum_by member_len (take (length before) ms)) is ∙ ap (sum_by member_len) (take-append_seam before (Member.Literal units ∷ after)) in
      let slots : List Slot = member_slots (length before, Member.Literal units) in
      ap (λ ms. map (sign_slot carrier steps ms) slots) is
      ∙ pairs_same (old_units (members_len before) units) slots (origin_of_slot steps (before ++ Member.Literal units ∷ after)) (slot_trail carrier false steps) (literal_origins carrier steps before after units) (literal_trails carrier steps before after units)
      ∙ ap (λ a. map sign_of (old_units a units)) (sym start)
  one_old before (Member.Tracked source x mode) after is =
      let k : ℕ = length before in
      let start : starts_of members (length before) ≡ members_len before = ap (λ ms. sum_by member_len (take (length before) ms)) is ∙ ap (sum_by member_len) (take-append_seam before (Member.Tracked source x mode ∷ after)) in
      let here : slice_get members (length before) ≡ Some (Member.Tracked source x mode) = ap (λ ms. slice_get ms (length before)) is ∙ get before (Member.Tracked source x mode) after in
      let none : steps source ≡ None = still (length before) source x mode here in
      let ys : List ℕ = slice_range (texts source) x.start (end_of x) in
      let size : length ys ≡ x.len = still_len (length before) (Member.Tracked source x mode) here in
      let same : bounds_after carrier steps members (length before) source x mode ≡ x = rw none refl in
      ap (λ (b : Span). map (sign_slot carrier steps members) (map (slot_of k (Some source)) (range_with_len b.start b.len))) same
      ∙ map_twice (sign_slot carrier steps members) (slot_of k (Some source)) (range_with_len x.start x.len)
      ∙ map_alike (λ q. sign_slot carrier steps members (slot_of k (Some source) q)) (λ q. risen carrier k (members_len before) x (Some q, [])) (range_with_len x.start x.len)
      (λ q. ap (λ ms. sign_slot carrier steps ms (slot_of k (Some source) q)) is ∙ slot_sign carrier steps before after source x mode q ∙ ap (λ o. risen carrier k (members_len before) x (sign_at o q)) none)
      ∙ ap (λ n. map (λ q. risen carrier k (members_len before) x (Some q, [])) (range_with_len n x.len)) (let e : x.start ≡ x.start + 0 = omega arith in e)
      ∙ ap (λ n. map (λ q. risen carrier k (members_len before) x (Some q, [])) (range_with_len (x.start + 0) n)) (sym size)
      ∙ risen_old carrier k (members_len before) 0 x ys (omega (arith, size))
      ∙ ap (λ n. map sign_of (old_units n ys)) (let e : members_len before + 0 ≡ members_len before = omega arith in e ∙ sym start)
    where
      get : (before : List Member) (m : Member) (after : List Member) → slice_get (before ++ m ∷ after) (length before) ≡ Some m
      get [] m after = refl
      get (b ∷ before) m after = get before m after

  all_old : (k : ℕ) (before ms : List Member) → members ≡ before ++ ms → k ≡ length before → map (sign_slot carrier steps members) (slots_from k (map (member_after carrier steps members) (enumerate_from k ms))) ≡ map sign_of (joined (old_parts texts members k ms))
  all_old k before [] is at = refl
  all_old k before (m ∷ ms) is at =
      let here : List Slot = member_slots (k, member_after carrier steps members (k, m)) in
      let later : List Slot = slots_from (k + 1) (map (member_after carrier steps members) (enumerate_from (k + 1) ms)) in
      let S : Slot → Sign = sign_slot carrier steps members in
      let one : map S here ≡ map sign_of (old_units (starts_of members k) (member_text texts m)) =
      subst (λ z. map S (member_slots (z, member_after carrier steps members (z, m))) ≡ map sign_of (old_units (starts_of members z) (member_text texts m))) (sym at) (one_old before m ms is) in
      map-append S here later
      ∙ ap (λ z. z ++ map S later) one
      ∙ ap (λ z. map sign_of (old_units (starts_of members k) (member_text texts m)) ++ z) (all_old (k + 1) (before ++ m ∷ []) ms (is ∙ sym (append_assoc before (m ∷ []) ms)) (omega (arith, at, length-append before (m ∷ []))))
      ∙ sym (map-append sign_of (old_units (starts_of members k) (member_text texts m)) (joined (old_parts texts members (k + 1) ms)))

-- A projection none of whose sources stepped doesn't step either.
pub still_comes : (carrier : ℕ) (members : List Member) (resolver : Option CutRules) (pieces : List Piece) (texts : ℕ → List ℕ) (steps : ℕ → Option SourceStep) (arrives : ℕ → List Piece) →
    AreShared carrier members resolver (arrived pieces (length (text_over texts members))) texts steps arrives → AreFitting members texts → SparesLiterals members (arrived pieces (length (text_over texts members))) → AllCutsRise members resolver (arrived pieces (length (text_over texts members))) →
    ((k b : ℕ) (x : Span) (mode : SpanMode) → slice_get members k ≡ Some (Member.Tracked b x mode) → steps b ≡ None) →
    Comes None pieces (text_over texts members)
still_comes carrier members resolver pieces texts steps arrives shared fitting spares cuts still =
    let text : List ℕ = text_over texts members in
    let same : map (sign_slot carrier steps members) (slots_from 0 (members_after carrier steps members)) ≡ map sign_of (old_units 0 text) =
    all_old carrier members texts steps fitting still 0 [] members refl refl
    ∙ ap (λ z. map sign_of z) (parts_text texts members 0 members (λ d. ap (slice_get members) (let e : d ≡ 0 + d = omega arith in e)) (still_len carrier members texts steps fitting still)) in
    let all : Sub (filter is_told (map sign_of (old_units 0 text))) (map sign_of (full_text pieces text)) = subst (λ z. Sub (filter is_told z) (map sign_of (full_text pieces text))) same (slots_among carrier members resolver pieces texts steps arrives shared fitting spares cuts) in
    record { signs = map sign_of (old_units 0 text); signed = refl; among = all }
