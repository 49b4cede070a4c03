-- A projection whose sources stepped by what it sent steps itself by the pieces that arrived there.
use Rattle.std.proofs.Common.{◌≡◌, ℕ, zero, suc, ◌+◌, ◌-◌, false, List, [], ◌∷◌, ◌++◌, length, map, take, drop, Option, Some, None, refl, sym, ap, ◌∙◌, arith, subst, append_assoc, length-append}
use Rattle.std.specs.Prelude.{slice_get, slice_range, sum_by}
use Rattle.std.specs.List.{enumerate_from}
use Rattle.std.proofs.lemmas.List.{map-append, length-map}
use Rattle.std.proofs.Math.Seq.{take-append_seam}
use Rattle.ed_base.specs.declared.edit.Span.{Span}
use Rattle.ed_base.specs.declared.mode.SpanMode.{SpanMode}
use Rattle.ed_base.specs.declared.piece.Member.{Member}
use Rattle.ed_base.specs.declared.piece.Piece.{Piece}
use Rattle.ed_base.specs.Hooks.{CutRules}
use Rattle.ed_base.specs.Step.{pairs_from}
use Rattle.ed_layers.specs.Bounds.{member_after, members_after}
use Rattle.ed_layers.specs.CarrierStep.{Slot, member_slots, carrier_step, record_trails, slot_trail, all_stay}
use Rattle.ed_layers.specs.Pieces.{Component, arrived}
use Rattle.ed_layers.specs.Records.{projection, members_len, member_len}
use Rattle.ed_layers.specs.Sending.{sent}
use Rattle.ed_layers.specs.SourceStep.{SourceStep}
use Rattle.ed_stock.specs.Landing.{pieces_at}
use Rattle.ed_sending.proofs.Texts.FullText.{Full, old_units, full_text, IsStepTo, kept_from_is, trail_at_is}
use Rattle.ed_sending.proofs.Carriers.CarrierText.{starts_of, AllCutsRise}
use Rattle.ed_sending.proofs.Members.OwnPieces.{lifted}
use Rattle.ed_sending.proofs.Carriers.MemberParts.{ShowsPart}
use Rattle.ed_sending.proofs.Carriers.SlotPlaces.{slots_from}
use Rattle.ed_sending.proofs.Carriers.SlotReadings.{Tells, origin_of_slot, member_origins, member_trails, literal_origins, literal_trails}
use Rattle.ed_sending.proofs.Carriers.NewText.{StepsBy, HaveStepped, SparesLiterals, bounds_after, shown_after, all_shown_after, tracked_shows, carrier_steps}
use Rattle.ed_sending.specs.Ready.{AreFitting}
use Rattle.ed_layers.specs.Texts.{member_text, text_over}

-- what a source's step tells
pub old_tells : (p d : ℕ) (us : List ℕ) (f : Full) → slice_get (old_units p us) d ≡ Some f → (f.0 ≡ Some (p + d)) × (f.1.1 ≡ [])
old_tells p d [] f is = absurd (let e : None ≡ Some f = is in cc)
old_tells p zero (u ∷ us) f is = let e : (Some p, (u, [])) ≡ f = cc in (ap (λ (z : Full). z.0) (sym e) ∙ ap (λ z. Some z) (let g : p ≡ p + 0 = omega arith in g), ap (λ (z : Full). z.1.1) (sym e))
old_tells p (suc d) (u ∷ us) f is = let r : (f.0 ≡ Some (p + 1 + d)) × (f.1.1 ≡ []) = old_tells (p + 1) d us f is in (r.0 ∙ ap (λ z. Some z) (let g : p + 1 + d ≡ p + suc d = omega arith in g), r.1)

pub step_tells : (o : Option SourceStep) (ps : List Piece) (text : List ℕ) → StepsBy o ps text → Tells o (full_text ps text)
step_tells (Some s) ps text step q f is = (kept_from_is s (full_text ps text) q f step is, trail_at_is s (full_text ps text) q f step is)
step_tells None ps text full q f is =
    let r : (f.0 ≡ Some (0 + q)) × (f.1.1 ≡ []) = old_tells 0 q text f (ap (λ (z : List Full). slice_get z q) (sym full) ∙ is) in
    (sym (r.0 ∙ ap (λ z. Some z) (let e : 0 + q ≡ q = omega arith in e)), sym r.1)

module _ (carrier : ℕ) (members : List Member) (resolver : Option CutRules) (cs : List Component) (texts : ℕ → List ℕ) (steps : ℕ → Option SourceStep) (stepped : HaveStepped carrier members resolver cs texts steps) (fitting : AreFitting members texts) (spares : SparesLiterals members cs) where
  abbrev Shown : ℕ → Member → List Full
  Shown k m = shown_after carrier members resolver cs texts steps k m

  pub at_start : (before after : List Member) → members ≡ before ++ after → starts_of members (length before) ≡ members_len before
  at_start before after is = ap (λ ms. sum_by member_len (take (length before) ms)) is ∙ ap (sum_by member_len) (take-append_seam before after)

  pub there : (before : List Member) (m : Member) (after : List Member) → slice_get (before ++ m ∷ after) (length before) ≡ Some m
  there [] m after = refl
  there (b ∷ before) m after = there before m after

  one_origins : (before : List Member) (m : Member) (after : List Member) → members ≡ before ++ m ∷ after → map (λ (f : Full). f.0) (Shown (length before) m) ≡ map (origin_of_slot steps members) (member_slots (length before, member_after carrier steps members (length before, m)))
  one_origins before (Member.Literal units) after is =
      ap (λ a. map (λ (f : Full). f.0) (old_units a units)) (at_start before (Member.Literal units ∷ after) is) ∙ literal_origins carrier steps before after units ∙ ap (λ ms. map (origin_of_slot steps ms) (member_slots (length before, Member.Literal units))) (sym is)
  one_origins before (Member.Tracked source x mode) after is =
      let b : Span = bounds_after carrier steps members (length before) source x mode in
      let fs : List Full = full_text (pieces_at (sent carrier members resolver cs) source) (texts source) in
      let here : slice_get members (length before) ≡ Some (Member.Tracked source x mode) = ap (λ ms. slice_get ms (length before)) is ∙ there before (Member.Tracked source x mode) after in
      let shows : ShowsPart carrier members resolver source (length before) x mode here (fitting.apart source) cs fs b (slice_range (texts source) x.start (x.start + x.len)) = tracked_shows carrier members resolver cs texts steps stepped fitting spares (length before) source x mode here in
      ap (λ a. map (λ (f : Full). f.0) (map (lifted carrier (length before) a x) (slice_range fs b.start (b.start + b.len)))) (at_start before (Member.Tracked source x mode ∷ after) is)
      ∙ member_origins carrier steps before after source x mode fs b (step_tells (steps source) (pieces_at (sent carrier members resolver cs) source) (texts source) (stepped (length before) source x mode here)) shows.len shows.lies
      ∙ ap (λ ms. map (origin_of_slot steps ms) (member_slots (length before, Member.Tracked source b mode))) (sym is)

  one_trails : (before : List Member) (m : Member) (after : List Member) → members ≡ before ++ m ∷ after → map (λ (f : Full). f.1.1) (Shown (length before) m) ≡ map (slot_trail carrier false steps) (member_slots (length before, member_after carrier steps members (length before, m)))
  one_trails before (Member.Literal units) after is =
      ap (λ a. map (λ (f : Full). f.1.1) (old_units a units)) (at_start before (Member.Literal units ∷ after) is) ∙ literal_trails carrier steps before after units
  one_trails before (Member.Tracked source x mode) after is =
      let b : Span = bounds_after carrier steps members (length before) source x mode in
      let fs : List Full = full_text (pieces_at (sent carrier members resolver cs) source) (texts source) in
      let here : slice_get members (length before) ≡ Some (Member.Tracked source x mode) = ap (λ ms. slice_get ms (length before)) is ∙ there before (Member.Tracked source x mode) after in
      let shows : ShowsPart carrier members resolver source (length before) x mode here (fitting.apart source) cs fs b (slice_range (texts source) x.start (x.start + x.len)) = tracked_shows carrier members resolver cs texts steps stepped fitting spares (length before) source x mode here in
      ap (λ a. map (λ (f : Full). f.1.1) (map (lifted carrier (length before) a x) (slice_range fs b.start (b.start + b.len)))) (at_start before (Member.Tracked source x mode ∷ after) is)
      ∙ member_trails carrier steps before after source x mode fs b (step_tells (steps source) (pieces_at (sent carrier members resolver cs) source) (texts source) (stepped (length before) source x mode here)) shows.len shows.lies

  -- of all members
  abbrev new_slots : ℕ → List Member → List Slot
  new_slots k ms = slots_from k (map (member_after carrier steps members) (enumerate_from k ms))

  read_all : {Y : Type 0} (h : Full → Y) (g : Slot → Y) → ((before : List Member) (m : Member) (after : List Member) → members ≡ before ++ m ∷ after → map h (Shown (length before) m) ≡ map g (member_slots (length before, member_after carrier steps members (length before, m)))) →
      (k : ℕ) (before ms : List Member) → members ≡ before ++ ms → k ≡ length before → map h (all_shown_after carrier members resolver cs texts steps k ms) ≡ map g (new_slots k ms)
  read_all h g one k before [] is at = refl
  read_all h g one k before (m ∷ ms) is at =
      let here : map h (Shown k m) ≡ map g (member_slots (k, member_after carrier steps members (k, m))) = subst (λ z. map h (Shown z m) ≡ map g (member_slots (z, member_after carrier steps members (z, m)))) (sym at) (one before m ms is) in
      map-append h (Shown k m) (all_shown_after carrier members resolver cs texts steps (k + 1) ms)
      ∙ ap (λ z. z ++ map h (all_shown_after carrier members resolver cs texts steps (k + 1) ms)) here
      ∙ ap (λ z. map g (member_slots (k, member_after carrier steps members (k, m))) ++ z) (read_all h g one (k + 1) (before ++ m ∷ []) ms (is ∙ sym (append_assoc before (m ∷ []) ms)) (omega (arith, at, length-append before (m ∷ []))))
      ∙ sym (map-append g (member_slots (k, member_after carrier steps members (k, m))) (new_slots (k + 1) ms))

-- A projection steps by the pieces that arrived there.
pub projection_steps : (carrier : ℕ) (members : List Member) (resolver : Option CutRules) (pieces : List Piece) (texts : ℕ → List ℕ) (steps : ℕ → Option SourceStep) (from to : List (ℕ × ℕ)) →
    HaveStepped carrier members resolver (arrived pieces (length (text_over texts members))) texts steps → AreFitting members texts → SparesLiterals members (arrived pieces (length (text_over texts members))) → AllCutsRise members resolver (arrived pieces (length (text_over texts members))) →
    IsStepTo (record { step = carrier_step all_stay steps (projection members from) (projection (members_after carrier steps members) to); trails = record_trails carrier false steps (projection (members_after carrier steps members) to) }) (full_text pieces (text_over texts members))
unfolding carrier_step
projection_steps carrier members resolver pieces texts steps from to stepped fitting spares cuts =
    let cs : List Component = arrived pieces (length (text_over texts members)) in
    let new : List Slot = slots_from 0 (members_after carrier steps members) in
    let whole : all_shown_after carrier members resolver cs texts steps 0 members ≡ full_text pieces (text_over texts members) = carrier_steps carrier members resolver pieces texts steps stepped fitting spares cuts in
    let origins : map (λ (f : Full). f.0) (all_shown_after carrier members resolver cs texts steps 0 members) ≡ map (origin_of_slot steps members) new =
    read_all carrier members resolver cs texts steps stepped fitting spares (λ (f : Full). f.0) (origin_of_slot steps members) (one_origins carrier members resolver cs texts steps stepped fitting spares) 0 [] members refl refl in
    let trails : map (λ (f : Full). f.1.1) (all_shown_after carrier members resolver cs texts steps 0 members) ≡ map (slot_trail carrier false steps) new =
    read_all carrier members resolver cs texts steps stepped fitting spares (λ (f : Full). f.1.1) (slot_trail carrier false steps) (one_trails carrier members resolver cs texts steps stepped fitting spares) 0 [] members refl refl in
    subst (λ (z : List Full). IsStepTo (record { step = carrier_step all_stay steps (projection members from) (projection (members_after carrier steps members) to); trails = record_trails carrier false steps (projection (members_after carrier steps members) to) }) z) whole (record {
      new_len = sym (length-map new (origin_of_slot steps members)) ∙ ap (λ z. length z) (sym origins) ∙ length-map (all_shown_after carrier members resolver cs texts steps 0 members) (λ (f : Full). f.0);
      kept = ap (λ z. pairs_from 0 z) (sym origins);
      trails = sym trails;
    })

-- ---- the text

abbrev pub unit_of : Full → ℕ
unit_of f = f.1.0

pub units_old : (p : ℕ) (us : List ℕ) → map unit_of (old_units p us) ≡ us
units_old p [] = refl
units_old p (u ∷ us) = ap (λ z. u ∷ z) (units_old (p + 1) us)

units_lifted : (carrier k a : ℕ) (x : Span) (fs : List Full) → map unit_of (map (lifted carrier k a x) fs) ≡ map unit_of fs
units_lifted carrier k a x [] = refl
units_lifted carrier k a x (f ∷ fs) = ap (λ z. f.1.0 ∷ z) (units_lifted carrier k a x fs)

map_range : {X Y : Type 0} (f : X → Y) (xs : List X) (i j : ℕ) → map f (slice_range xs i j) ≡ slice_range (map f xs) i j
map_range {X = X} f xs i j = taken (j - i) (drop i xs) ∙ ap (λ z. take (j - i) z) (dropped i xs)
  where
    taken : (n : ℕ) (ys : List X) → map f (take n ys) ≡ take n (map f ys)
    taken zero ys = refl
    taken (suc n) [] = refl
    taken (suc n) (y ∷ ys) = ap (λ z. f y ∷ z) (taken n ys)

    dropped : (n : ℕ) (ys : List X) → map f (drop n ys) ≡ drop n (map f ys)
    dropped zero ys = refl
    dropped (suc n) [] = refl
    dropped (suc n) (y ∷ ys) = dropped n ys

-- Its new text, read off the new texts of its sources, is the old one with what the pieces put in and take away.
pub projection_text : (carrier : ℕ) (members : List Member) (resolver : Option CutRules) (pieces : List Piece) (texts news : ℕ → List ℕ) (steps : ℕ → Option SourceStep) →
    HaveStepped carrier members resolver (arrived pieces (length (text_over texts members))) texts steps → AreFitting members texts → SparesLiterals members (arrived pieces (length (text_over texts members))) → AllCutsRise members resolver (arrived pieces (length (text_over texts members))) →
    ((k b : ℕ) (x : Span) (mode : SpanMode) → slice_get members k ≡ Some (Member.Tracked b x mode) → map unit_of (full_text (pieces_at (sent carrier members resolver (arrived pieces (length (text_over texts members)))) b) (texts b)) ≡ news b) →
    text_over news (members_after carrier steps members) ≡ map unit_of (full_text pieces (text_over texts members))
projection_text carrier members resolver pieces texts news steps stepped fitting spares cuts are =
    sym (all 0 members (λ d. ap (slice_get members) (let e : d ≡ 0 + d = omega arith in e))) ∙ ap (map unit_of) (carrier_steps carrier members resolver pieces texts steps stepped fitting spares cuts)
  where
    cs : List Component
    cs = arrived pieces (length (text_over texts members))

    one : (k : ℕ) (m : Member) → slice_get members k ≡ Some m → map unit_of (shown_after carrier members resolver cs texts steps k m) ≡ member_text news (member_after carrier steps members (k, m))
    one k (Member.Literal units) here = units_old (starts_of members k) units
    one k (Member.Tracked source x mode) here =
        let b : Span = bounds_after carrier steps members k source x mode in
        let fs : List Full = full_text (pieces_at (sent carrier members resolver cs) source) (texts source) in
        units_lifted carrier k (starts_of members k) x (slice_range fs b.start (b.start + b.len)) ∙ map_range unit_of fs b.start (b.start + b.len) ∙ ap (λ z. slice_range z b.start (b.start + b.len)) (are k source x mode here)

    all : (k : ℕ) (ms : List Member) → ((d : ℕ) → slice_get ms d ≡ slice_get members (k + d)) → map unit_of (all_shown_after carrier members resolver cs texts steps k ms) ≡ text_over news (map (member_after carrier steps members) (enumerate_from k ms))
    all k [] same = refl
    all k (m ∷ ms) same =
        let here : slice_get members k ≡ Some m = ap (slice_get members) (let e : k ≡ k + 0 = omega arith in e) ∙ sym (same 0) in
        map-append unit_of (shown_after carrier members resolver cs texts steps k m) (all_shown_after carrier members resolver cs texts steps (k + 1) ms)
        ∙ ap (λ z. z ++ map unit_of (all_shown_after carrier members resolver cs texts steps (k + 1) ms)) (one k m here)
        ∙ ap (λ z. member_text news (member_after carrier steps members (k, m)) ++ z) (all (k + 1) ms (λ d. same (suc d) ∙ ap (slice_get members) (let e : k + suc d ≡ (k + 1) + d = omega arith in e)))
