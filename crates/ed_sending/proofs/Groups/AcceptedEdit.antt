-- An accepted edit of the stock: what each projection's advance requires, and typed text.
use Rattle.std.proofs.Common.{◌≡◌, ◌≢◌, ℕ, zero, suc, ◌+◌, ◌<◌, Bool, true, List, [], ◌∷◌, ◌++◌, length, map, Option, Some, None, ◌⊎◌, inl, inr, refl, sym, ap, ◌∙◌, arith, subst}
use Rattle.std.specs.Prelude.{slice_get}
use Rattle.std.proofs.lemmas.List.{append-nil}
use Rattle.ed_base.specs.declared.edit.Span.{Span}
use Rattle.ed_base.specs.declared.mode.SpanMode.{SpanMode}
use Rattle.ed_base.specs.declared.piece.Member.{Member}
use Rattle.ed_base.specs.declared.piece.Piece.{Piece}
use Rattle.ed_base.specs.Hooks.{HookTable}
use Rattle.ed_layers.specs.Bounds.{members_after}
use Rattle.ed_layers.specs.CarrierStep.{carrier_step, record_trails, all_stay}
use Rattle.ed_layers.specs.Owning.{OwnInside, OwnInOrder}
use Rattle.ed_layers.specs.Pieces.{Component, arrived}
use Rattle.ed_layers.specs.Records.{Record, base, projection, elision, is_carrier, is_elision, members_of, sources_of}
use Rattle.ed_layers.specs.Sending.{sent, sending_fault}
use Rattle.ed_layers.specs.SourceStep.{SourceStep}
use Rattle.ed_layers.specs.Pieces.{marked_text}
use Rattle.ed_sending.proofs.Groups.ReadyStocks.{deep_at, fitting_at, listed, lower_at, named_at, source_named, text_alike}
use Rattle.ed_sending.proofs.Carriers.SlotReadings.{map_twice}
use Rattle.ed_sending.proofs.Texts.FullText.{Full, full_marked}
use Rattle.ed_stock.specs.Stock.{Stock, now, record_now, sources_now, text_now, count}
use Rattle.ed_stock.specs.Versions.{next_record, step_in, at_now}
use Rattle.ed_stock.specs.Landing.{pieces_at, carriers_down, components_at, resolver_of, sent_down, down_fault}
use Rattle.ed_sending.proofs.Lists.SortedParts.{Each}
use Rattle.ed_sending.proofs.Carriers.NewText.{StepsBy, HaveStepped, SparesLiterals}
use Rattle.ed_sending.proofs.Shared.SourceSigns.{Comes, base_comes, ends_at}
use Rattle.ed_sending.proofs.Shared.SignsByHeight.{Passes, BelowCome, passes_comes, advances}
use Rattle.ed_sending.proofs.Groups.StepsByHeight.{BelowStep, Carries, carries_steps, have_stepped, steps_by_height}
use Rattle.ed_sending.proofs.Carriers.ProjectionStep.{unit_of, units_old, projection_text}
use Rattle.ed_sending.proofs.Texts.FullText.{old_units, full_text}
use Rattle.ed_sending.proofs.Members.DealtPieces.{flat_none}
use Rattle.ed_sending.proofs.Groups.Arrivals.{send, arrives_all, arrives_own, arrives_from}
use Rattle.ed_sending.proofs.Groups.Faultless.{spares_literals, all_cuts_rise, faultless}
use Rattle.ed_sending.proofs.Groups.LandedSteps.{done, reached, sees, base_steps, base_reads, carrier_turn}
use Rattle.ed_base.specs.Numbers.{is_among}
use Rattle.ed_risen.proofs.Lists.{among_itself}
use Rattle.ed_sending.proofs.Carriers.CarrierText.{AllCutsRise}
use Rattle.ed_sending.proofs.Elisions.ElisionSigns.{elision_comes, still_elision}
use Rattle.ed_sending.proofs.Elisions.ElisionStep.{elision_stays, elision_steps, elision_text, flags_then}
use Rattle.ed_sending.proofs.Texts.FilteredText.{passing}
use Rattle.ed_sending.specs.Ready.{AreShown, IsReady, height_now}
use Rattle.ed_layers.specs.Texts.{text_over}

-- a full text without places and trails is the marked text without trails
pub units_marked : (ps : List Piece) (text : List ℕ) → map unit_of (full_text ps text) ≡ map (λ (u : ℕ × List (ℕ × ℕ)). u.0) (marked_text ps text)
units_marked ps text = sym (map_twice (λ (u : ℕ × List (ℕ × ℕ)). u.0) (λ (f : Full). f.1) (full_text ps text)) ∙ ap (map (λ (u : ℕ × List (ℕ × ℕ)). u.0)) (full_marked ps text)

module _ (hooks : HookTable) (s : Stock) (ready : IsReady s) (start : List (ℕ × Piece)) (own : Each (λ bp. bp.1.trail ≡ []) start) (accepted : down_fault hooks s start ≡ None) (reiterated : ℕ → Option ℕ) where
  abbrev pub pending : List (ℕ × Piece)
  pending = sent_down hooks s start

  abbrev pub arrives : ℕ → List Piece
  arrives b = pieces_at (sent_down hooks s start) b

  abbrev pub steps : ℕ → Option SourceStep
  steps b = step_in (done s (sent_down hooks s start) reiterated).moves b

  abbrev pub IsThere : ℕ → Type 0
  IsThere b = b < count s

  module _ (c : ℕ) (there : c < count s) where
    -- the steps that are known when its turn comes
    abbrev pub seen : ℕ → Option SourceStep
    seen b = step_in (reached s (sent_down hooks s start) reiterated c there).moves b

    abbrev pub stock_then : Stock
    stock_then = (reached s (sent_down hooks s start) reiterated c there).stock

  -- ---- a carrier

  module _ (c : ℕ) (there : c < count s) (r : Record) (is : record_now s c ≡ r) (carries : is_carrier r ≡ true) where
    abbrev parts : List Component
    parts = arrived (arrives c) (length (text_over (text_now s) (members_of r)))

    carries_now : is_carrier (record_now s c) ≡ true
    carries_now = ap is_carrier is ∙ carries

    parts_are : components_at s pending c ≡ parts
    parts_are = ap (λ (t : List ℕ). arrived (pieces_at (sent_down hooks s start) c) (length t)) (deep_at s ready c r is carries)

    no_fault : sending_fault c (members_of r) parts ≡ None
    no_fault = subst (λ cs. sending_fault c (members_of r) cs ≡ None) parts_are (subst (λ (q : Record). sending_fault c (members_of q) (components_at s pending c) ≡ None) is (faultless hooks s ready.lower start accepted c there carries_now))

    spares : SparesLiterals (members_of r) parts
    spares = spares_literals c (members_of r) parts no_fault

    cuts : AllCutsRise (members_of r) (resolver_of hooks s c) parts
    cuts = all_cuts_rise c (members_of r) (resolver_of hooks s c) parts no_fault

    sent_is : (b : ℕ) → pieces_at (send hooks s c (arrives c)) b ≡ pieces_at (sent c (members_of r) (resolver_of hooks s c) parts) b
    sent_is b = ap (λ (q : Record). pieces_at (sent c (members_of q) (resolver_of hooks s c) (components_at s pending c)) b) is ∙ ap (λ cs. pieces_at (sent c (members_of r) (resolver_of hooks s c) cs) b) parts_are

    -- of what arrives at a source, what it sent there
    gets_own : (b : ℕ) → passing (ends_at c) (arrives b) ≡ pieces_at (sent c (members_of r) (resolver_of hooks s c) parts) b
    gets_own b = arrives_own hooks s ready.lower start own c there carries_now b ∙ sent_is b

    abbrev next_then : Record
    next_then = next_record (stock_then c there) c (seen c there) None r

    abbrev turn_step : SourceStep
    turn_step = record { step = carrier_step all_stay (seen c there) r (next_record (stock_then c there) c (seen c there) None r); trails = record_trails c (is_elision (next_record (stock_then c there) c (seen c there) None r)) (seen c there) (next_record (stock_then c there) c (seen c there) None r) }

    -- its turn: it steps, or none of its sources stepped
    turned : ((steps c ≡ Some turn_step) × (record_now (done s (sent_down hooks s start) reiterated).stock c ≡ next_then)) ⊎ ((steps c ≡ None) × (record_now (done s (sent_down hooks s start) reiterated).stock c ≡ r) × Each (λ v. seen c there v.0 ≡ None) (sources_of r))
    turned = carrier_turn s (sent_down hooks s start) reiterated c there carries_now r is

  -- ---- a projection

  module _ (c : ℕ) (there : c < count s) (members : List Member) (from : List (ℕ × ℕ)) (is : record_now s c ≡ projection members from) where
    abbrev shown : Record
    shown = projection members from

    lower_there : (k b : ℕ) (x : Span) (mode : SpanMode) → slice_get members k ≡ Some (Member.Tracked b x mode) → (height_now s b < height_now s c) × (b < count s)
    lower_there k b x mode at = (lower_at s ready c shown is k b x mode at, (named_at s ready c shown is k b x mode at).1)

    stepped : (steps c ≡ Some (turn_step c there (projection members from) is refl)) ⊎ ((steps c ≡ None) × ((k b : ℕ) (x : Span) (mode : SpanMode) → slice_get members k ≡ Some (Member.Tracked b x mode) → seen c there b ≡ None))
    stepped = elim (turned c there shown is refl) [
      | inl some ↦ inl some.0
      | inr none ↦ inr (none.0, λ k b x mode at. listed (λ d. seen c there d ≡ None) from b (now s b) none.2 (named_at s ready c shown is k b x mode at).0)
    ]

    pub passes : Passes (height_now s) arrives (text_now s) steps IsThere c
    passes = record {
      members = members;
      resolver = resolver_of hooks s c;
      from = from;
      to = at_now (stock_then c there) from;
      text = deep_at s ready c shown is refl;
      fitting = fitting_at s ready c shown is;
      spares = spares c there shown is refl;
      cuts = cuts c there shown is refl;
      lower = lower_there;
      gets = λ k b x mode at. gets_own c there shown is refl b;
      seen = seen c there;
      sees = λ k b x mode at. sees s (sent_down hooks s start) reiterated c there b (lower_there k b x mode at).0;
      stepped = stepped;
    }

  -- ---- an elision buffer

  module _ (c : ℕ) (there : c < count s) (flags : List Bool) (source version : ℕ) (is : record_now s c ≡ elision flags source version) where
    abbrev hiding : Record
    hiding = elision flags source version

    source_there : source < count s
    source_there = (ready.hides c source version flags is).0

    source_lower : height_now s source < height_now s c
    source_lower = (ready.hides c source version flags is).1

    as_long : length (text_now s source) ≡ length flags
    as_long = sym (ready.hides c source version flags is).2

    source_seen : seen c there source ≡ steps source
    source_seen = sees s (sent_down hooks s start) reiterated c there source source_lower

    text_is : text_now s c ≡ text_over (text_now s) (members_of (elision flags source version))
    text_is = deep_at s ready c hiding is refl

    pub hidden_comes : BelowCome (height_now s) arrives (text_now s) steps IsThere c → Comes (steps c) (arrives c) (text_now s c)
    hidden_comes below =
        let comes : Comes (seen c there source) (arrives source) (text_now s source) = subst (λ (o : Option SourceStep). Comes o (arrives source) (text_now s source)) (sym source_seen) (below source source_there source_lower) in
        subst (λ (t : List ℕ). Comes (steps c) (arrives c) t) (sym text_is) (elim (turned c there hiding is refl) [
          | inl some ↦ subst (λ (o : Option SourceStep). Comes o (arrives c) (text_over (text_now s) (members_of hiding))) (sym some.0)
              (elision_comes c source flags (resolver_of hooks s c) (arrives c) (text_now s) as_long (seen c there) (arrives source) (flags_then c flags (seen c there source)) version (now (stock_then c there) source) comes (gets_own c there hiding is refl source) (cuts c there hiding is refl))
          | inr none ↦ subst (λ (o : Option SourceStep). Comes o (arrives c) (text_over (text_now s) (members_of hiding))) (sym none.0)
              (still_elision c source flags (resolver_of hooks s c) (arrives c) (text_now s) as_long (seen c there) none.2.0 (arrives source) comes (gets_own c there hiding is refl source) (cuts c there hiding is refl))
        ])

  pub comes_at : (c : ℕ) → c < count s → BelowCome (height_now s) arrives (text_now s) steps IsThere c → Comes (steps c) (arrives c) (text_now s c)
  comes_at c there below = by (record_now s c) refl
    where
      by : (r : Record) → record_now s c ≡ r → Comes (steps c) (arrives c) (text_now s c)
      by (base text n) is = base_comes (steps c) (arrives c) (text_now s c) (base_steps s (sent_down hooks s start) reiterated c there (ap is_carrier is))
      by (projection members from) is = passes_comes (height_now s) arrives (text_now s) steps IsThere c (passes c there members from is) below
      by (elision flags source version) is = hidden_comes c there flags source version is below

  -- On every accepted edit, what a member owns lies inside it, and members hold in order: what `Members::advance` requires at the projection's turn.
  pub group_advances : (c : ℕ) (there : c < count s) (members : List Member) (from : List (ℕ × ℕ)) (is : record_now s c ≡ projection members from) → OwnInside c (λ b. step_in (reached s (sent_down hooks s start) reiterated c there).moves b) members × OwnInOrder c (λ b. step_in (reached s (sent_down hooks s start) reiterated c there).moves b) members
  unfolding passes
  group_advances c there members from is = advances (height_now s) arrives (text_now s) steps IsThere comes_at c (passes c there members from is)

  -- ---- typed text

  -- Each buffer below gets from one carrier only, and from no one else.
  pub record IsOneWay (top : ℕ) (IsBelow : ℕ → Type 0) : Type 0 where
    pub top_below : IsBelow top
    pub top_own : (e : ℕ) → pieces_at (send hooks s e (arrives e)) top ≡ []
    pub inside : (b : ℕ) → IsBelow b → b < count s
    pub sources : (b : ℕ) → IsBelow b → (d : ℕ) → is_among d (sources_now s b) ≡ true → IsBelow d × (pieces_at start d ≡ []) × ((e : ℕ) → e ≢ b → pieces_at (send hooks s e (arrives e)) d ≡ [])

  module _ (top : ℕ) (IsBelow : ℕ → Type 0) (way : IsOneWay top IsBelow) where
    -- a source of a carrier below
    source_alone : (c : ℕ) (below : IsBelow c) (r : Record) (is : record_now s c ≡ r) (carries : is_carrier r ≡ true) (b : ℕ) → is_among b (sources_now s c) ≡ true → IsBelow b × (arrives b ≡ pieces_at (sent c (members_of r) (resolver_of hooks s c) (parts c (way.inside c below) r is carries)) b)
    source_alone c below r is carries b among =
        let w : IsBelow b × (pieces_at start b ≡ []) × ((e : ℕ) → e ≢ c → pieces_at (send hooks s e (arrives e)) b ≡ []) = way.sources c below b among in
        (w.0, arrives_from hooks s ready.lower start c (way.inside c below) (carries_now c (way.inside c below) r is carries) b w.1 w.2 ∙ sent_is c (way.inside c below) r is carries b)

    member_alone : (c : ℕ) (below : IsBelow c) (r : Record) (is : record_now s c ≡ r) (carries : is_carrier r ≡ true) (k b : ℕ) (x : Span) (mode : SpanMode) → slice_get (members_of r) k ≡ Some (Member.Tracked b x mode)
        → IsBelow b × (arrives b ≡ pieces_at (sent c (members_of r) (resolver_of hooks s c) (parts c (way.inside c below) r is carries)) b)
    member_alone c below r is carries k b x mode at = source_alone c below r is carries b (source_named s ready c k b x mode (ap (λ (q : Record). slice_get (members_of q) k) is ∙ at))

    pub carries_at : (c : ℕ) (below : IsBelow c) (members : List Member) (from : List (ℕ × ℕ)) → record_now s c ≡ projection members from → Carries (height_now s) arrives (text_now s) steps IsBelow c
    carries_at c below members from is =
        let there : c < count s = way.inside c below in
        record {
          members = members;
          resolver = resolver_of hooks s c;
          from = from;
          to = at_now (stock_then c there) from;
          text = deep_at s ready c (projection members from) is refl;
          fitting = fitting_at s ready c (projection members from) is;
          spares = spares c there (projection members from) is refl;
          cuts = cuts c there (projection members from) is refl;
          sources = λ k b x mode at. (let w : IsBelow b × (arrives b ≡ pieces_at (sent c members (resolver_of hooks s c) (parts c there (projection members from) is refl)) b) = member_alone c below (projection members from) is refl k b x mode at in
              ((lower_there c there members from is k b x mode at).0, w.0, w.1));
          seen = seen c there;
          sees = λ k b x mode at. sees s (sent_down hooks s start) reiterated c there b (lower_there c there members from is k b x mode at).0;
          stepped = stepped c there members from is;
        }

    -- an elision buffer below
    module _ (c : ℕ) (below : IsBelow c) (flags : List Bool) (source version : ℕ) (is : record_now s c ≡ elision flags source version) where
      abbrev its : Record
      its = elision flags source version

      abbrev there_c : c < count s
      there_c = way.inside c below

      the_source : IsBelow source × (arrives source ≡ pieces_at (sent c (members_of (elision flags source version)) (resolver_of hooks s c) (parts c (way.inside c below) (elision flags source version) is refl)) source)
      the_source = source_alone c below its is refl source (ap (λ (q : Record). is_among source (map (λ (v : ℕ × ℕ). v.0) (sources_of q))) is ∙ among_itself source [])

      source_own : BelowStep (height_now s) arrives (text_now s) steps IsBelow c → StepsBy (seen c there_c source) (pieces_at (sent c (members_of (elision flags source version)) (resolver_of hooks s c) (parts c (way.inside c below) (elision flags source version) is refl)) source) (text_now s source)
      source_own lower =
          subst (λ (o : Option SourceStep). StepsBy o (pieces_at (sent c (members_of its) (resolver_of hooks s c) (parts c there_c its is refl)) source) (text_now s source)) (sym (source_seen c there_c flags source version is))
          (subst (λ (ps : List Piece). StepsBy (steps source) ps (text_now s source)) the_source.1 (lower source (source_lower c there_c flags source version is) the_source.0))

      hidden_steps : BelowStep (height_now s) arrives (text_now s) steps IsBelow c → StepsBy (steps c) (arrives c) (text_now s c)
      hidden_steps lower =
          subst (λ (t : List ℕ). StepsBy (steps c) (arrives c) t) (sym (text_is c there_c flags source version is)) (elim (turned c there_c its is refl) [
            | inl some ↦ subst (λ (o : Option SourceStep). StepsBy o (arrives c) (text_over (text_now s) (members_of its))) (sym some.0)
                (elision_steps c source flags (resolver_of hooks s c) (arrives c) (text_now s) (as_long c there_c flags source version is) (seen c there_c) (source_own lower) (cuts c there_c its is refl) version (now (stock_then c there_c) source))
            | inr none ↦ subst (λ (o : Option SourceStep). StepsBy o (arrives c) (text_over (text_now s) (members_of its))) (sym none.0)
                (elision_stays c source flags (resolver_of hooks s c) (arrives c) (text_now s) (as_long c there_c flags source version is) (seen c there_c) (source_own lower) (cuts c there_c its is refl) none.2.0)
          ])

    pub one_way : (c : ℕ) → IsBelow c → BelowStep (height_now s) arrives (text_now s) steps IsBelow c → StepsBy (steps c) (arrives c) (text_now s c)
    one_way c below lower = by (record_now s c) refl
      where
        by : (r : Record) → record_now s c ≡ r → StepsBy (steps c) (arrives c) (text_now s c)
        by (base text n) is = base_steps s (sent_down hooks s start) reiterated c (way.inside c below) (ap is_carrier is)
        by (projection members from) is = carries_steps (height_now s) arrives (text_now s) steps IsBelow c (carries_at c below members from is) lower
        by (elision flags source version) is = hidden_steps c below flags source version is lower

    -- Each buffer below steps by what arrived there, the edited one by the edit's own pieces.
    pub all_step : (b : ℕ) → IsBelow b → StepsBy (steps b) (arrives b) (text_now s b)
    all_step b below = steps_by_height (height_now s) arrives (text_now s) steps IsBelow one_way (suc (height_now s b)) b (omega arith) below

    top_arrives : arrives top ≡ pieces_at start top
    top_arrives =
        arrives_all hooks s ready.lower start top
        ∙ ap (λ z. pieces_at start top ++ z) (flat_none (λ e. pieces_at (send hooks s e (arrives e)) top) (carriers_down s) (all (carriers_down s)))
        ∙ append-nil (pieces_at start top)
      where
        all : (es : List ℕ) → Each (λ e. pieces_at (send hooks s e (arrives e)) top ≡ []) es
        all [] = tt
        all (e ∷ es) = (way.top_own e, all es)

    pub typed_step : StepsBy (steps top) (pieces_at start top) (text_now s top)
    typed_step = subst (λ ps. StepsBy (steps top) ps (text_now s top)) top_arrives (all_step top way.top_below)

    -- the texts after
    abbrev pub after : Stock
    after = (done s (sent_down hooks s start) reiterated).stock

    abbrev pub Reads : ℕ → Type 0
    Reads b = text_now after b ≡ map unit_of (full_text (arrives b) (text_now s b))

    module _ (deep_after : AreShown (done s (sent_down hooks s start) reiterated).stock) where
      deep_then : (c : ℕ) (r : Record) → record_now after c ≡ r → is_carrier r ≡ true → text_now after c ≡ text_over (text_now after) (members_of r)
      deep_then c r is carries = subst (λ (q : Record). text_now after c ≡ text_over (text_now after) (members_of q)) is (deep_after c (ap is_carrier is ∙ carries))

      still : (b : ℕ) → steps b ≡ None → StepsBy (steps b) (arrives b) (text_now s b) → full_text (arrives b) (text_now s b) ≡ old_units 0 (text_now s b)
      still b none by = subst (λ (o : Option SourceStep). StepsBy o (arrives b) (text_now s b)) none by

      -- a carrier none of whose sources stepped
      still_reads : (c : ℕ) (below : IsBelow c) (r : Record) (is : record_now s c ≡ r) (carries : is_carrier r ≡ true) → steps c ≡ None → record_now after c ≡ r → Each (λ v. seen c (way.inside c below) v.0 ≡ None) (sources_of r) → ((b : ℕ) → height_now s b < height_now s c → IsBelow b → Reads b) → Reads c
      still_reads c below r is carries none now_is unseen lower =
          deep_then c r now_is carries
          ∙ text_alike (text_now after) (text_now s) (members_of r) same 0 (members_of r) (λ d. ap (slice_get (members_of r)) (let e : d ≡ 0 + d = omega arith in e))
          ∙ sym (deep_at s ready c r is carries)
          ∙ sym (units_old 0 (text_now s c))
          ∙ ap (map unit_of) (sym (still c none (all_step c below)))
        where
          same : (k b : ℕ) (x : Span) (mode : SpanMode) → slice_get (members_of r) k ≡ Some (Member.Tracked b x mode) → text_now after b ≡ text_now s b
          same k b x mode at =
              let low : height_now s b < height_now s c = lower_at s ready c r is k b x mode at in
              let its_below : IsBelow b = (member_alone c below r is carries k b x mode at).0 in
              let rests : steps b ≡ None = sym (sees s (sent_down hooks s start) reiterated c (way.inside c below) b low) ∙ listed (λ d. seen c (way.inside c below) d ≡ None) (sources_of r) b (now s b) unseen (named_at s ready c r is k b x mode at).0 in
              lower b low its_below ∙ ap (map unit_of) (still b rests (all_step b its_below)) ∙ units_old 0 (text_now s b)

      projection_reads : (c : ℕ) (below : IsBelow c) (members : List Member) (from : List (ℕ × ℕ)) → record_now s c ≡ projection members from → ((b : ℕ) → height_now s b < height_now s c → IsBelow b → Reads b) → Reads c
      unfolding carries_at
      projection_reads c below members from is lower = elim (turned c there shows is refl) [
        | inl some ↦ deep_then c (projection (members_after c (seen c there) members) (at_now (stock_then c there) from)) some.1 refl
            ∙ projection_text c members (resolver_of hooks s c) (arrives c) (text_now s) (text_now after) (seen c there) have (fitting_at s ready c shows is) (spares c there shows is refl) (cuts c there shows is refl)
            (λ k b x mode at. (let w = carry.sources k b x mode at in ap (λ ps. map unit_of (full_text ps (text_now s b))) (sym w.2) ∙ sym (lower b w.0 w.1)))
            ∙ ap (λ t. map unit_of (full_text (arrives c) t)) (sym (deep_at s ready c shows is refl))
        | inr none ↦ still_reads c below shows is refl none.0 none.1 none.2 lower
      ]
        where
          there : c < count s
          there = way.inside c below

          shows : Record
          shows = projection members from

          carry : Carries (height_now s) arrives (text_now s) steps IsBelow c
          carry = carries_at c below members from is

          have : HaveStepped c members (resolver_of hooks s c) (parts c there (projection members from) is refl) (text_now s) (seen c there)
          have = have_stepped (height_now s) arrives (text_now s) steps IsBelow c (carries_at c below members from is) (λ b low is_below. all_step b is_below)

      hidden_reads : (c : ℕ) (below : IsBelow c) (flags : List Bool) (source version : ℕ) → record_now s c ≡ elision flags source version → ((b : ℕ) → height_now s b < height_now s c → IsBelow b → Reads b) → Reads c
      hidden_reads c below flags source version is lower = elim (turned c there (elision flags source version) is refl) [
        | inl some ↦ deep_then c (elision (flags_then c flags (seen c there source)) source (now (stock_then c there) source)) some.1 refl
            ∙ elision_text c source flags (resolver_of hooks s c) (arrives c) (text_now s) (as_long c there flags source version is) (seen c there) (source_own c below flags source version is (λ b low is_below. all_step b is_below)) (cuts c there (elision flags source version) is refl) (text_now after)
            (lower source (source_lower c there flags source version is) (the_source c below flags source version is).0 ∙ ap (λ ps. map unit_of (full_text ps (text_now s source))) (the_source c below flags source version is).1)
            ∙ ap (λ t. map unit_of (full_text (arrives c) t)) (sym (text_is c there flags source version is))
        | inr none ↦ still_reads c below (elision flags source version) is refl none.0 none.1 none.2 lower
      ]
        where
          there : c < count s
          there = way.inside c below

      reads_within : (n b : ℕ) → height_now s b < n → IsBelow b → Reads b
      reads_within zero b low below = absurd (omega arith)
      reads_within (suc n) b low below = by (record_now s b) refl (λ d lower is_below. reads_within n d (omega (arith, lower)) is_below)
        where
          by : (r : Record) → record_now s b ≡ r → ((d : ℕ) → height_now s d < height_now s b → IsBelow d → Reads d) → Reads b
          by (base text m) is lower = base_reads s (sent_down hooks s start) reiterated b (way.inside b below) (ap is_carrier is)
          by (projection members from) is lower = projection_reads b below members from is lower
          by (elision flags source version) is lower = hidden_reads b below flags source version is lower

      -- The new text of the edited buffer is its old text with the edit's own pieces done.
      pub typed_text : text_now after top ≡ map unit_of (full_text (pieces_at start top) (text_now s top))
      typed_text = reads_within (suc (height_now s top)) top (omega arith) way.top_below ∙ ap (λ ps. map unit_of (full_text ps (text_now s top))) top_arrives
