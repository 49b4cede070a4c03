-- A carrier after its sources stepped by what it sent: its new text is the old one with what arrived.
use Rattle.std.proofs.Common.{◌≡◌, ℕ, suc, ◌+◌, ◌-◌, ◌<◌, ◌≤◌, Bool, true, false, List, [], ◌∷◌, ◌++◌, length, map, take, drop, Option, Some, None, inl, inr, refl, sym, ap, ◌∙◌, arith, subst}
use Rattle.std.specs.Prelude.{nat_eq, slice_get, slice_range, flat_map}
use Rattle.std.specs.List.{enumerate_from}
use Rattle.std.specs.Option.{option_map_or}
use Rattle.std.proofs.lemmas.Bool.{cases_eq}
use Rattle.std.proofs.lemmas.Bool.Decides.{nat_tests}
use Rattle.std.proofs.lemmas.List.{append-nil, take-append-drop, drop-drop, length-take, length-drop}
use Rattle.ed_base.specs.declared.edit.Span.{Span}
use Rattle.ed_base.specs.declared.mode.SpanMode.{SpanMode}
use Rattle.ed_base.specs.declared.piece.Member.{Member}
use Rattle.ed_base.specs.declared.piece.Piece.{Piece}
use Rattle.ed_base.specs.Edit.{woven}
use Rattle.ed_base.proofs.NormalSteps.{woven_keeps}
use Rattle.ed_base.specs.Hooks.{CutRules}
use Rattle.ed_base.specs.Spans.{end_of}
use Rattle.ed_layers.specs.Order.{is_inclusive}
use Rattle.ed_layers.specs.Bounds.{new_bounds, placed_on}
use Rattle.ed_layers.specs.Records.{member_len}
use Rattle.ed_layers.specs.Pieces.{Component, arrived}
use Rattle.ed_layers.specs.Sending.{Target, targets, sent}
use Rattle.ed_layers.specs.SourceStep.{SourceStep}
use Rattle.ed_layers.specs.Texts.{member_text, text_over}
use Rattle.ed_stock.specs.Landing.{pieces_at}
use Rattle.ed_sending.proofs.Lists.SortedParts.{Each}
use Rattle.ed_sending.proofs.Texts.FullText.{Full, old_units, put_in, full_text, IsStepTo}
use Rattle.ed_sending.proofs.Members.SourceParts.{length_old, old_append}
use Rattle.ed_sending.proofs.Carriers.Components.{AreArrived, arrived_are}
use Rattle.ed_sending.proofs.Members.DealtPieces.{flat_none}
use Rattle.ed_sending.proofs.Members.Targets.{rule_for, entry_of, dealt_of, IsTarget, all_targets, start_next}
use Rattle.ed_sending.proofs.Carriers.MemberChunks.{own_at, own_put, joined, AreParts, parts_woven}
use Rattle.ed_sending.proofs.Carriers.CarrierText.{starts_of, taken_of, put_of, AreComponents, AllCutsRise, carrier_by_parts}
use Rattle.ed_sending.proofs.Carriers.SentPieces.{numbered_each}
use Rattle.ed_sending.proofs.Members.OwnPieces.{lifted}
use Rattle.ed_sending.proofs.Carriers.MemberParts.{ShowsPart, member_part, covering_part, still_part}
use Rattle.ed_sending.specs.Ready.{AreFitting}

-- ---- what is given: the old texts of the sources, and their steps by what the carrier sent

-- a source that stepped by the pieces that the carrier sent there; one to which nothing was sent that does something needs no step
abbrev pub StepsBy : Option SourceStep → List Piece → List ℕ → Type 0
StepsBy None ps text = full_text ps text ≡ old_units 0 text
StepsBy (Some s) ps text = IsStepTo s (full_text ps text)

abbrev pub HaveStepped : ℕ → List Member → Option CutRules → List Component → (ℕ → List ℕ) → (ℕ → Option SourceStep) → Type 0
HaveStepped carrier members resolver cs texts steps = (k b : ℕ) (x : Span) (mode : SpanMode) → slice_get members k ≡ Some (Member.Tracked b x mode) → StepsBy (steps b) (pieces_at (sent carrier members resolver cs) b) (texts b)

abbrev pub bounds_after : ℕ → (ℕ → Option SourceStep) → List Member → ℕ → ℕ → Span → SpanMode → Span
bounds_after carrier steps members k source bounds mode = option_map_or (λ s. new_bounds carrier s (placed_on source (enumerate_from 0 members)) mode (record { index = k; bounds = bounds })) (steps source) bounds

-- what a member shows after the step, in the places of the carrier before it
abbrev pub shown_after : ℕ → List Member → Option CutRules → List Component → (ℕ → List ℕ) → (ℕ → Option SourceStep) → ℕ → Member → List Full
shown_after carrier members resolver cs texts steps k (Member.Literal units) = old_units (starts_of members k) units
shown_after carrier members resolver cs texts steps k (Member.Tracked source bounds mode) =
    map (lifted carrier k (starts_of members k) bounds) (slice_range (full_text (pieces_at (sent carrier members resolver cs) source) (texts source)) (bounds_after carrier steps members k source bounds mode).start (end_of (bounds_after carrier steps members k source bounds mode)))

abbrev pub all_shown_after : ℕ → List Member → Option CutRules → List Component → (ℕ → List ℕ) → (ℕ → Option SourceStep) → ℕ → List Member → List Full
all_shown_after carrier members resolver cs texts steps k [] = []
all_shown_after carrier members resolver cs texts steps k (m ∷ ms) = shown_after carrier members resolver cs texts steps k m ++ all_shown_after carrier members resolver cs texts steps (k + 1) ms

-- no component takes a unit of a literal
abbrev pub SparesLiterals : List Member → List Component → Type 0
SparesLiterals members cs = (k : ℕ) (units : List ℕ) (d : ℕ) → slice_get members k ≡ Some (Member.Literal units) → d < length units → taken_of cs (starts_of members k + d) ≡ false

-- ---- a literal

literal_put : (members : List Member) (resolver : Option CutRules) (cs : List Component) (k g : ℕ) (units : List ℕ) → slice_get members k ≡ Some (Member.Literal units) → own_put k (map (dealt_of members resolver) cs) g ≡ []
literal_put members resolver cs k g units here = flat_none (λ d. flat_map (own_at k g) d.entries) (map (dealt_of members resolver) cs) (all cs)
  where
    one : (c : Component) (n j : ℕ) (t : Target) → IsTarget members c t → own_at k g (entry_of members (rule_for resolver c) c n (j, t)) ≡ []
    one c n j t is = elim (cases_eq t.member k) [
      | inl same ↦ absurd (let e : Some (Member.Tracked t.source t.bounds is.mode) ≡ Some (Member.Literal units) = sym is.there ∙ ap (slice_get members) same ∙ here in cc)
      | inr other ↦ (let m : nat_eq t.member k ≡ false = grind (arith, nat_tests) in rw m refl)
    ]

    mapped : (c : Component) (n : ℕ) (its : List (ℕ × Target)) → Each (λ it. own_at k g (entry_of members (rule_for resolver c) c n it) ≡ []) its → flat_map (own_at k g) (map (entry_of members (rule_for resolver c) c n) its) ≡ []
    mapped c n [] a = refl
    mapped c n (it ∷ its) a = rw (a.0, mapped c n its a.1) refl

    all : (cs : List Component) → Each (λ d. flat_map (own_at k g) d.entries ≡ []) (map (dealt_of members resolver) cs)
    all [] = tt
    all (c ∷ cs) = (mapped c (length (targets members c)) (enumerate_from 0 (targets members c)) (numbered_each members c (λ it. own_at k g (entry_of members (rule_for resolver c) c (length (targets members c)) it) ≡ []) (λ j t is. one c (length (targets members c)) j t is) 0 0 (targets members c) (all_targets members c)), all cs)

literal_part : (members : List Member) (resolver : Option CutRules) (cs : List Component) (k : ℕ) (units : List ℕ) → slice_get members k ≡ Some (Member.Literal units) → SparesLiterals members cs → woven (own_put k (map (dealt_of members resolver) cs)) (taken_of cs) (starts_of members k) (old_units (starts_of members k) units) ≡ old_units (starts_of members k) units
literal_part members resolver cs k units here spares =
    let a : ℕ = starts_of members k in
    let us : List Full = old_units a units in
    let size : length us ≡ length units = length_old a units in
    let put : ℕ → List Full = own_put k (map (dealt_of members resolver) cs) in
    let run : woven put (taken_of cs) a (us ++ []) ≡ us ++ woven put (taken_of cs) (a + length us) [] =
    woven_keeps put (taken_of cs) a us [] (λ q above below. literal_put members resolver cs k q units here)
    (λ q above below. ap (taken_of cs) (let e : q ≡ a + (q - a) = omega arith in e) ∙ spares k units (q - a) here (omega arith)) in
    ap (λ z. woven put (taken_of cs) a z) (sym (append-nil us)) ∙ run ∙ ap (λ z. us ++ z) (literal_put members resolver cs k (a + length us) units here) ∙ append-nil us

-- ---- all members

abbrev pub old_parts : (ℕ → List ℕ) → List Member → ℕ → List Member → List (List Full)
old_parts texts members k [] = []
old_parts texts members k (m ∷ ms) = old_units (starts_of members k) (member_text texts m) ∷ old_parts texts members (k + 1) ms

nothing : (l : List ℕ) → length l ≡ 0 → l ≡ []
nothing [] e = refl
nothing (x ∷ xs) e = absurd (omega arith)

module _ (carrier : ℕ) (members : List Member) (resolver : Option CutRules) (cs : List Component) (texts : ℕ → List ℕ) (steps : ℕ → Option SourceStep) (stepped : HaveStepped carrier members resolver cs texts steps) (fitting : AreFitting members texts) (spares : SparesLiterals members cs) where
  -- a tracked member
  pub tracked_shows : (k source : ℕ) (x : Span) (mode : SpanMode) → (here : slice_get members k ≡ Some (Member.Tracked source x mode)) → ShowsPart carrier members resolver source k x mode here (fitting.apart source) cs (full_text (pieces_at (sent carrier members resolver cs) source) (texts source)) (bounds_after carrier steps members k source x mode) (slice_range (texts source) x.start (end_of x))
  tracked_shows k source x mode here = by_step (steps source) refl (stepped k source x mode here)
    where
      text : List ℕ
      text = texts source

      xs : List ℕ
      xs = take x.start text

      ys : List ℕ
      ys = slice_range text x.start (end_of x)

      zs : List ℕ
      zs = drop (x.start + x.len) text

      ps : List Piece
      ps = pieces_at (sent carrier members resolver cs) source

      within : end_of x ≤ length text
      within = fitting.inside k source x mode here

      size : x.start + x.len - x.start ≡ x.len
      size = omega arith

      whole : xs ++ (ys ++ zs) ≡ text
      whole = ap (λ n. xs ++ (take n (drop x.start text) ++ zs)) size ∙ ap (λ z. xs ++ (take x.len (drop x.start text) ++ z)) (sym (drop-drop x.len x.start text)) ∙ ap (λ z. xs ++ z) (take-append-drop x.len (drop x.start text)) ∙ take-append-drop x.start text

      ex : length xs ≡ x.start
      ex = omega (arith, length-take x.start text, within)

      ey : length ys ≡ x.len
      ey = omega (arith, length-take (x.start + x.len - x.start) (drop x.start text), length-drop x.start text, within)

      Shows : Span → List ℕ → Type 0
      Shows b t = ShowsPart carrier members resolver source k x mode here (fitting.apart source) cs (full_text ps t) b ys

      by_mode : (s : SourceStep) → IsStepTo s (full_text ps text) → (z : Bool) → is_inclusive mode ≡ z → Shows (new_bounds carrier s (placed_on source (enumerate_from 0 members)) mode (record { index = k; bounds = x })) text
      by_mode s step false e =
          subst (λ (t : List ℕ). Shows (new_bounds carrier s (placed_on source (enumerate_from 0 members)) mode (record { index = k; bounds = x })) t) whole
          (member_part carrier members resolver source k x mode here (fitting.apart source) cs s (placed_on source (enumerate_from 0 members)) xs ys zs ex ey (subst (λ t. IsStepTo s (full_text ps t)) (sym whole) step) e)
      by_mode s step true e =
          let c : (x.start ≡ 0) × (x.len ≡ length text) = fitting.covers k source x mode here e in
          let no_xs : xs ≡ [] = nothing xs (omega (arith, ex, c.0)) in
          let no_zs : zs ≡ [] = nothing zs (omega (arith, length-drop (x.start + x.len) text, c.0, c.1)) in
          let same : text ≡ ys = sym whole ∙ ap (λ z. z ++ (ys ++ zs)) no_xs ∙ ap (λ z. ys ++ z) no_zs ∙ append-nil ys in
          let nb : Span = new_bounds carrier s (placed_on source (enumerate_from 0 members)) mode (record { index = k; bounds = x }) in
          subst (λ (t : List ℕ). ShowsPart carrier members resolver source k x mode here (fitting.apart source) cs (full_text ps text) nb t) same
          (covering_part carrier members resolver source k x mode here (fitting.apart source) cs s (placed_on source (enumerate_from 0 members)) text c.0 (sym c.1) step e (λ j y mode' there. fitting.alone k j source x y mode mode' here e there))

      by_step : (o : Option SourceStep) → steps source ≡ o → StepsBy o ps text → Shows (option_map_or (λ s. new_bounds carrier s (placed_on source (enumerate_from 0 members)) mode (record { index = k; bounds = x })) o x) text
      by_step None e same = subst (λ (t : List ℕ). Shows x t) whole (still_part carrier members resolver source k x mode here (fitting.apart source) cs xs ys zs ex ey (subst (λ t. full_text ps t ≡ old_units 0 t) (sym whole) same))
      by_step (Some s) e step = by_mode s step (is_inclusive mode) refl

  one_member : (k : ℕ) (m : Member) → slice_get members k ≡ Some m → shown_after carrier members resolver cs texts steps k m ≡ woven (own_put k (map (dealt_of members resolver) cs)) (taken_of cs) (starts_of members k) (old_units (starts_of members k) (member_text texts m))
  one_member k (Member.Literal units) here = sym (literal_part members resolver cs k units here spares)
  one_member k (Member.Tracked source x mode) here = (tracked_shows k source x mode here).part

  members_from : (k : ℕ) (ms : List Member) → ((d : ℕ) → slice_get ms d ≡ slice_get members (k + d)) → all_shown_after carrier members resolver cs texts steps k ms ≡ parts_woven (starts_of members) (taken_of cs) (map (dealt_of members resolver) cs) k (old_parts texts members k ms)
  members_from k [] same = refl
  members_from k (m ∷ ms) same =
      let here : slice_get members k ≡ Some m = ap (slice_get members) (let e : k ≡ k + 0 = omega arith in e) ∙ sym (same 0) in
      ap (λ z. z ++ all_shown_after carrier members resolver cs texts steps (k + 1) ms) (one_member k m here)
      ∙ ap (λ z. woven (own_put k (map (dealt_of members resolver) cs)) (taken_of cs) (starts_of members k) (old_units (starts_of members k) (member_text texts m)) ++ z)
      (members_from (k + 1) ms (λ d. same (suc d) ∙ ap (slice_get members) (let e : k + suc d ≡ (k + 1) + d = omega arith in e)))

  pub part_len : (k : ℕ) (m : Member) → slice_get members k ≡ Some m → length (member_text texts m) ≡ member_len m
  part_len k (Member.Literal units) here = refl
  part_len k (Member.Tracked source x mode) here =
      let within : end_of x ≤ length (texts source) = fitting.inside k source x mode here in
      omega (arith, length-take (x.start + x.len - x.start) (drop x.start (texts source)), length-drop x.start (texts source))

  are_parts : (k : ℕ) (ms : List Member) → ((d : ℕ) → slice_get ms d ≡ slice_get members (k + d)) → AreParts (starts_of members) k (old_parts texts members k ms)
  are_parts k [] same = tt
  are_parts k (m ∷ ms) same =
      let here : slice_get members k ≡ Some m = ap (slice_get members) (let e : k ≡ k + 0 = omega arith in e) ∙ sym (same 0) in (
        start_next members k m here ∙ ap (λ n. starts_of members k + n) (sym (part_len k m here) ∙ sym (length_old (starts_of members k) (member_text texts m))),
        are_parts (k + 1) ms (λ d. same (suc d) ∙ ap (slice_get members) (let e : k + suc d ≡ (k + 1) + d = omega arith in e)),
      )

  -- The new text of the carrier, each unit with its old place or its trail, is the old text with what arrived.
  pub carrier_whole : AreComponents 0 cs → Each (λ c. c.start + c.old_len ≤ length (joined (old_parts texts members 0 members))) cs → AllCutsRise members resolver cs →
      all_shown_after carrier members resolver cs texts steps 0 members ≡ woven (λ g. map put_in (put_of cs g)) (taken_of cs) 0 (joined (old_parts texts members 0 members))
  carrier_whole apart inside cuts =
      let same : (d : ℕ) → slice_get members d ≡ slice_get members (0 + d) = λ d. ap (slice_get members) (let e : d ≡ 0 + d = omega arith in e) in
      members_from 0 members same ∙ sym (carrier_by_parts members resolver cs (taken_of cs) (old_parts texts members 0 members) apart inside cuts (λ q e. e) (are_parts 0 members same) (count 0 members))
    where
      count : (k : ℕ) (ms : List Member) → length (old_parts texts members k ms) ≡ length ms
      count k [] = refl
      count k (m ∷ ms) = ap (λ n. suc n) (count (k + 1) ms)

-- the parts together are the units of the old text, each at its place
pub parts_text : (texts : ℕ → List ℕ) (members : List Member) (k : ℕ) (ms : List Member) → ((d : ℕ) → slice_get ms d ≡ slice_get members (k + d)) → ((j : ℕ) (m : Member) → slice_get members j ≡ Some m → length (member_text texts m) ≡ member_len m) → joined (old_parts texts members k ms) ≡ old_units (starts_of members k) (text_over texts ms)
parts_text texts members k [] same lens = refl
parts_text texts members k (m ∷ ms) same lens =
    let here : slice_get members k ≡ Some m = ap (slice_get members) (let e : k ≡ k + 0 = omega arith in e) ∙ sym (same 0) in
    let next : starts_of members (k + 1) ≡ starts_of members k + length (member_text texts m) = start_next members k m here ∙ ap (λ n. starts_of members k + n) (sym (lens k m here)) in
    ap (λ z. old_units (starts_of members k) (member_text texts m) ++ z) (parts_text texts members (k + 1) ms (λ d. same (suc d) ∙ ap (slice_get members) (let e : k + suc d ≡ (k + 1) + d = omega arith in e)) lens ∙ ap (λ z. old_units z (text_over texts ms)) next)
    ∙ sym (old_append (starts_of members k) (member_text texts m) (text_over texts ms))

-- The step of a carrier by the pieces that arrived there, where each source stepped by what the carrier sent on.
pub carrier_steps : (carrier : ℕ) (members : List Member) (resolver : Option CutRules) (pieces : List Piece) (texts : ℕ → List ℕ) (steps : ℕ → Option SourceStep) →
    HaveStepped carrier members resolver (arrived pieces (length (text_over texts members))) texts steps → AreFitting members texts → SparesLiterals members (arrived pieces (length (text_over texts members))) → AllCutsRise members resolver (arrived pieces (length (text_over texts members))) →
    all_shown_after carrier members resolver (arrived pieces (length (text_over texts members))) texts steps 0 members ≡ full_text pieces (text_over texts members)
carrier_steps carrier members resolver pieces texts steps stepped fitting spares cuts =
    let text : List ℕ = text_over texts members in
    let cs : List Component = arrived pieces (length text) in
    let is : AreArrived pieces text cs = arrived_are pieces text in
    let joins : joined (old_parts texts members 0 members) ≡ old_units 0 text = parts_text texts members 0 members (λ d. ap (slice_get members) (let e : d ≡ 0 + d = omega arith in e)) (λ j m here. part_len carrier members resolver cs texts steps stepped fitting spares j m here) in
    let size : length text ≡ length (joined (old_parts texts members 0 members)) = sym (length_old 0 text) ∙ ap (λ (z : List Full). length z) (sym joins) in
    carrier_whole carrier members resolver cs texts steps stepped fitting spares is.apart (subst (λ n. Each (λ (c : Component). c.start + c.old_len ≤ n) cs) size is.inside) cuts
    ∙ ap (λ z. woven (λ g. map put_in (put_of cs g)) (taken_of cs) 0 z) joins ∙ is.same
