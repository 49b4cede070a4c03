-- By height: each buffer below an edited one steps by the pieces that arrived at it, where each of them is a source of one carrier.
use Rattle.std.proofs.Common.{◌≡◌, ℕ, zero, suc, ◌+◌, ◌-◌, ◌<◌, ◌≤◌, false, List, [], ◌∷◌, ◌++◌, length, map, take, drop, Option, Some, None, ◌⊎◌, inl, inr, refl, sym, ap, ◌∙◌, arith, subst}
use Rattle.std.specs.Prelude.{slice_get, slice_range}
use Rattle.std.specs.Option.{option_map_or}
use Rattle.std.specs.List.{enumerate_from}
use Rattle.std.proofs.lemmas.List.{take-append-drop, drop-drop, length-take, length-drop}
use Rattle.ed_base.specs.declared.edit.Span.{Span}
use Rattle.ed_base.specs.declared.mode.SpanMode.{SpanMode}
use Rattle.ed_base.specs.declared.piece.Member.{Member}
use Rattle.ed_base.specs.declared.piece.Piece.{Piece}
use Rattle.ed_base.specs.Hooks.{CutRules}
use Rattle.ed_base.specs.Spans.{end_of}
use Rattle.ed_layers.specs.Bounds.{members_after, placed_on, new_bounds}
use Rattle.ed_layers.specs.CarrierStep.{carrier_step, record_trails, all_stay}
use Rattle.ed_layers.specs.Pieces.{Component, arrived}
use Rattle.ed_layers.specs.Records.{projection}
use Rattle.ed_layers.specs.Sending.{sent}
use Rattle.ed_layers.specs.SourceStep.{SourceStep}
use Rattle.ed_stock.specs.Landing.{pieces_at}
use Rattle.ed_sending.proofs.Texts.FullText.{old_units, full_text}
use Rattle.ed_sending.proofs.Carriers.CarrierText.{starts_of, AllCutsRise}
use Rattle.ed_sending.proofs.Carriers.MemberChunks.{joined}
use Rattle.ed_sending.proofs.Members.OwnPieces.{lifted}
use Rattle.ed_sending.proofs.Carriers.MemberParts.{still_shown}
use Rattle.ed_sending.proofs.Carriers.NewText.{StepsBy, HaveStepped, SparesLiterals, shown_after, all_shown_after, old_parts, parts_text, part_len, carrier_steps}
use Rattle.ed_sending.proofs.Carriers.ProjectionStep.{projection_steps}
use Rattle.ed_sending.specs.Ready.{AreFitting}
use Rattle.ed_layers.specs.Texts.{member_text, text_over}

-- ---- no source stepped

module _ (carrier : ℕ) (members : List Member) (resolver : Option CutRules) (cs : List Component) (texts : ℕ → List ℕ) (steps : ℕ → Option SourceStep) (stepped : HaveStepped carrier members resolver cs texts steps) (fitting : AreFitting members texts) (still : (k b : ℕ) (x : Span) (mode : SpanMode) → slice_get members k ≡ Some (Member.Tracked b x mode) → steps b ≡ None) where
  one_still : (k : ℕ) (m : Member) → slice_get members k ≡ Some m → shown_after carrier members resolver cs texts steps k m ≡ old_units (starts_of members k) (member_text texts m)
  one_still k (Member.Literal units) here = refl
  one_still k (Member.Tracked source x mode) here = by_step (steps source) refl (still k source x mode here) (stepped k source x mode here)
    where
      text : List ℕ
      text = texts source

      xs : List ℕ
      xs = take x.start text

      ys : List ℕ
      ys = slice_range text x.start (end_of x)

      zs : List ℕ
      zs = drop (x.start + x.len) text

      ps : List Piece
      ps = pieces_at (sent carrier members resolver cs) source

      within : end_of x ≤ length text
      within = fitting.inside k source x mode here

      size : x.start + x.len - x.start ≡ x.len
      size = omega arith

      whole : xs ++ (ys ++ zs) ≡ text
      whole = ap (λ n. xs ++ (take n (drop x.start text) ++ zs)) size ∙ ap (λ z. xs ++ (take x.len (drop x.start text) ++ z)) (sym (drop-drop x.len x.start text)) ∙ ap (λ z. xs ++ z) (take-append-drop x.len (drop x.start text)) ∙ take-append-drop x.start text

      ex : length xs ≡ x.start
      ex = omega (arith, length-take x.start text, within)

      ey : length ys ≡ x.len
      ey = omega (arith, length-take (x.start + x.len - x.start) (drop x.start text), length-drop x.start text, within)

      by_step : (o : Option SourceStep) → steps source ≡ o → steps source ≡ None → StepsBy (steps source) ps text → shown_after carrier members resolver cs texts steps k (Member.Tracked source x mode) ≡ old_units (starts_of members k) ys
      by_step o e none same =
          let given : full_text ps text ≡ old_units 0 text = subst (λ z. StepsBy z ps text) none same in
          let at : full_text ps (xs ++ (ys ++ zs)) ≡ old_units 0 (xs ++ (ys ++ zs)) = subst (λ t. full_text ps t ≡ old_units 0 t) (sym whole) given in
          let shown : map (lifted carrier k (starts_of members k) x) (slice_range (full_text ps text) x.start (end_of x)) ≡ old_units (starts_of members k) ys =
          subst (λ (t : List ℕ). map (lifted carrier k (starts_of members k) x) (slice_range (full_text ps t) x.start (end_of x)) ≡ old_units (starts_of members k) ys) whole (still_shown carrier members resolver source k x mode here (fitting.apart source) cs xs ys zs ex ey at) in
          ap (λ (o : Option SourceStep). map (lifted carrier k (starts_of members k) x) (slice_range (full_text ps text)
          (option_map_or (λ s. new_bounds carrier s (placed_on source (enumerate_from 0 members)) mode (record { index = k; bounds = x })) o x).start
          (end_of (option_map_or (λ s. new_bounds carrier s (placed_on source (enumerate_from 0 members)) mode (record { index = k; bounds = x })) o x)))) none ∙ shown

  pub all_still : (k : ℕ) (ms : List Member) → ((d : ℕ) → slice_get ms d ≡ slice_get members (k + d)) → all_shown_after carrier members resolver cs texts steps k ms ≡ joined (old_parts texts members k ms)
  all_still k [] same = refl
  all_still k (m ∷ ms) same =
      let here : slice_get members k ≡ Some m = ap (slice_get members) (let e : k ≡ k + 0 = omega arith in e) ∙ sym (same 0) in
      ap (λ z. z ++ all_shown_after carrier members resolver cs texts steps (k + 1) ms) (one_still k m here)
      ∙ ap (λ z. old_units (starts_of members k) (member_text texts m) ++ z) (all_still (k + 1) ms (λ d. same (suc d) ∙ ap (slice_get members) (let e : k + suc d ≡ (k + 1) + d = omega arith in e)))

-- ---- by height

-- what arrived at each buffer, its old text, and its step
module _ (heights : ℕ → ℕ) (arrives : ℕ → List Piece) (texts : ℕ → List ℕ) (steps : ℕ → Option SourceStep) (IsBelow : ℕ → Type 0) where
  abbrev pub parts_at : ℕ → List Member → List Component
  parts_at b members = arrived (arrives b) (length (text_over texts members))

  -- a projection, all of whose sources get from it alone
  pub record Carries (b : ℕ) : Type 0 where
    pub members : List Member
    pub resolver : Option CutRules
    pub from : List (ℕ × ℕ)
    pub to : List (ℕ × ℕ)
    pub text : texts b ≡ text_over texts members
    pub fitting : AreFitting members texts
    pub spares : SparesLiterals members (parts_at b members)
    pub cuts : AllCutsRise members resolver (parts_at b members)
    pub sources : (k s : ℕ) (x : Span) (mode : SpanMode) → slice_get members k ≡ Some (Member.Tracked s x mode) → (heights s < heights b) × IsBelow s × (arrives s ≡ pieces_at (sent b members resolver (parts_at b members)) s)
    -- the steps that are known when its turn comes
    pub seen : ℕ → Option SourceStep
    pub sees : (k s : ℕ) (x : Span) (mode : SpanMode) → slice_get members k ≡ Some (Member.Tracked s x mode) → seen s ≡ steps s
    pub stepped : (steps b ≡ Some (record { step = carrier_step all_stay seen (projection members from) (projection (members_after b seen members) to); trails = record_trails b false seen (projection (members_after b seen members) to) }))
        ⊎ ((steps b ≡ None) × ((k s : ℕ) (x : Span) (mode : SpanMode) → slice_get members k ≡ Some (Member.Tracked s x mode) → seen s ≡ None))

  -- its sources stepped by what it sent
  pub have_stepped : (b : ℕ) (c : Carries b) → ((s : ℕ) → heights s < heights b → IsBelow s → StepsBy (steps s) (arrives s) (texts s)) → HaveStepped b c.members c.resolver (parts_at b c.members) texts c.seen
  have_stepped b c lower k s x mode there =
      let h : (heights s < heights b) × IsBelow s × (arrives s ≡ pieces_at (sent b c.members c.resolver (parts_at b c.members)) s) = c.sources k s x mode there in
      subst (λ (o : Option SourceStep). StepsBy o (pieces_at (sent b c.members c.resolver (parts_at b c.members)) s) (texts s)) (sym (c.sees k s x mode there))
      (subst (λ (ps : List Piece). StepsBy (steps s) ps (texts s)) h.2 (lower s h.0 h.1))

  -- the lower buffers that are below step by what arrived there
  abbrev pub BelowStep : ℕ → Type 0
  BelowStep b = (s : ℕ) → heights s < heights b → IsBelow s → StepsBy (steps s) (arrives s) (texts s)

  pub carries_steps : (b : ℕ) → Carries b → BelowStep b → StepsBy (steps b) (arrives b) (texts b)
  carries_steps b c below =
      let stepped : HaveStepped b c.members c.resolver (parts_at b c.members) texts c.seen = have_stepped b c below in
      subst (λ (t : List ℕ). StepsBy (steps b) (arrives b) t) (sym c.text) (elim c.stepped [
        | inl some ↦ subst (λ (o : Option SourceStep). StepsBy o (arrives b) (text_over texts c.members)) (sym some) (projection_steps b c.members c.resolver (arrives b) texts c.seen c.from c.to stepped c.fitting c.spares c.cuts)
        | inr none ↦ subst (λ (o : Option SourceStep). StepsBy o (arrives b) (text_over texts c.members)) (sym none.0) (
            let here : (d : ℕ) → slice_get c.members d ≡ slice_get c.members (0 + d) = λ d. ap (slice_get c.members) (let e : d ≡ 0 + d = omega arith in e) in
            sym (carrier_steps b c.members c.resolver (arrives b) texts c.seen stepped c.fitting c.spares c.cuts)
            ∙ all_still b c.members c.resolver (parts_at b c.members) texts c.seen stepped c.fitting none.1 0 c.members here
            ∙ parts_text texts c.members 0 c.members here (λ j m at. part_len b c.members c.resolver (parts_at b c.members) texts c.seen stepped c.fitting c.spares j m at))
      ])

  -- Each buffer below steps by what arrived there, if it does wherever the lower ones do.
  pub steps_by_height : ((b : ℕ) → IsBelow b → BelowStep b → StepsBy (steps b) (arrives b) (texts b)) → (n b : ℕ) → heights b < n → IsBelow b → StepsBy (steps b) (arrives b) (texts b)
  steps_by_height each zero b low below = absurd (omega arith)
  steps_by_height each (suc n) b low below = each b below (λ s lower is. steps_by_height each n s (omega (arith, lower)) is)
