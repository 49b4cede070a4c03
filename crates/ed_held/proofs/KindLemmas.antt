-- What is known of a buffer of each kind.
use Rattle.std.proofs.Common.{◌≡◌, ℕ, zero, suc, ◌+◌, ◌-◌, ◌<◌, ◌^◌, Bool, true, false, List, [], ◌∷◌, ◌++◌, length, map, Option, Some, None, Ok, Err, refl, sym, ap, ◌∙◌, subst, arith}
use Rattle.std.specs.Prelude.{All, IfOk, Result, filter, not, slice_get, unwrap_or, ◌||◌}
use Rattle.std.specs.Option.{option_map_or}
use Rattle.std.specs.List.{list_any, range_with_len}
use Rattle.std.proofs.lemmas.List.{length-map, map-append}
use Rattle.ed_base.specs.ChangeList.{change_list, step}
use Rattle.ed_base.specs.declared.Member.{Member}
use Rattle.ed_base.specs.declared.OutOfMemory.{OutOfMemory}
use Rattle.ed_base.specs.Denial.{regions_after}
use Rattle.ed_base.specs.Numbers.{places}
use Rattle.ed_buffer.specs.Planning.{Base, NextVersion}
use Rattle.ed_layers.specs.CarrierStep.{all_stay, carrier_step, stay_around}
use Rattle.ed_layers.specs.Records.{Record, base, is_carrier, is_elision, members_len, members_of, projection, sources_of}
use Rattle.ed_layers.specs.SourceStep.{SourceStep}
use Rattle.ed_members.specs.Moving.{EndsInNew}
use Rattle.ed_project.specs.Planning as projections
use Rattle.ed_project.specs.Planning.{Answers, EndsWithin, added_in, too_long}
use Rattle.ed_project.specs.Records.{Projection, Next, IsUnchanged, record_of, shown, shown_now, version_at}
use Rattle.ed_project.specs.Texts.{no_steps, text_in, text_over, versions_of}
use Rattle.ed_project.specs.declared.ProjectionFault.{ProjectionFault}
use Rattle.ed_version.specs.declared.Snapshot.{Snapshot}
use Rattle.ed_project.specs.declared.Shown.{Shown}
use Rattle.ed_stock.specs.Stock.{Buffer, reiterated_in}
use Rattle.ed_version.specs.declared.Version.{Version}
use Rattle.ed_elide.specs.Records as elisions
use Rattle.ed_held.proofs.ElisionLemmas.{elision_last}
use Rattle.ed_held.specs.Asking.{IsBase}
use Rattle.ed_held.specs.Advancing.{Advances, CanGoOn, next_of, record_then}
use Rattle.ed_held.specs.Following.{Follows}
use Rattle.ed_held.specs.OfProjections.{GoesAlong, Respans, Shows, members_next}
use Rattle.ed_held.specs.Respanning.{HasRespanned, IsPart, held_members}
use Rattle.ed_held.specs.Seen.{Known, base_record, known, last_of, reiterated_of, text_of}
use Rattle.ed_risen.proofs.RisingLemmas.{get_last}
use Rattle.ed_risen.proofs.Lists.{get_map}
use Rattle.ed_held.specs.Making.{CanTurn, known_grown}
use Rattle.ed_held.specs.declared.held.Held.{Held}
use Rattle.ed_held.specs.declared.moves.Move.{Move}
use Rattle.ed_held.specs.declared.moves.Planned.{Planned}
use Rattle.ed_readonly.specs.LiveRegions.{LiveRegions, is_live, is_numbered, without_region}
use Rattle.ed_base.specs.Denial.{Region}
use Rattle.ed_version.specs.Chain.{version}

pub base_last : (vs : List Version) (i : ℕ) → is_carrier (unwrap_or (slice_get (map base_record vs) i) (base [] 0)) ≡ false
base_last [] i = refl
base_last (v ∷ vs) zero = refl
base_last (v ∷ vs) (suc i) = base_last vs i

pub base_bare : (vs : List Version) (i : ℕ) → is_elision (unwrap_or (slice_get (map base_record vs) i) (base [] 0)) ≡ false
base_bare [] i = refl
base_bare (v ∷ vs) zero = refl
base_bare (v ∷ vs) (suc i) = base_bare vs i

pub base_members : (vs : List Version) (i : ℕ) → members_of (unwrap_or (slice_get (map base_record vs) i) (base [] 0)) ≡ []
base_members [] i = refl
base_members (v ∷ vs) zero = refl
base_members (v ∷ vs) (suc i) = base_members vs i

pub projection_last : (p : Projection) (turns : ℕ) → 0 < length p.versions → last_of (known (Held.Projection p turns)).buffer ≡ record_of (shown_now p)
projection_last p turns some =
    ap (λ n. unwrap_or (slice_get (map record_of p.versions) (n - 1)) (base [] 0)) (length-map p.versions record_of)
    ∙ ap (λ o. unwrap_or o (base [] 0)) (get_map record_of p.versions (length p.versions - 1) (shown_now p) (get_last p.versions some (shown [] [] [])))

pub base_held : (h : Held) → 0 < length (known h).buffer.records → is_carrier (last_of (known h).buffer) ≡ false → IsBase h
base_held (Held.Base x) some bare = (x, refl)
base_held (Held.Projection p turns) some bare = absurd (let e : is_carrier (last_of (known (Held.Projection p turns)).buffer) ≡ true = ap is_carrier (projection_last p turns (omega (arith, some, length-map p.versions record_of))) in cc)
base_held (Held.Elision e turns) some bare = absurd (let h : is_carrier (last_of (known (Held.Elision e turns)).buffer) ≡ true = ap is_carrier (elision_last e turns (omega (arith, some, length-map e.versions (elisions.record_of e.source)))) in cc)

pub texts_count : (h : Held) → length (known h).texts ≡ length (known h).buffer.records
texts_count (Held.Base x) = length-map x.chain.versions _ ∙ sym (length-map x.chain.versions _)
texts_count (Held.Projection p turns) = length-map p.versions _ ∙ sym (length-map p.versions _)
texts_count (Held.Elision e turns) = length-map e.versions _ ∙ sym (length-map e.versions _)

pub by_place : {X : Type 0} (f : X → ℕ) (at : ℕ → ℕ) (k : ℕ) (xs : List X) → ((i : ℕ) (x : X) → slice_get xs i ≡ Some x → at (k + i) ≡ f x) → map f xs ≡ map at (range_with_len k (length xs))
by_place f at k [] h = refl
by_place f at k (x ∷ xs) h =
    ap (λ y. y ∷ map f xs) (sym (ap at (let e : k ≡ k + 0 = omega arith in e) ∙ h 0 x refl))
    ∙ ap (λ ys. at k ∷ ys) (by_place f at (k + 1) xs (λ i y is. ap at (let e : k + 1 + i ≡ k + suc i = omega arith in e) ∙ h (suc i) y is))

pub base_repeats : (x : Buffer) (vs : List Version) → x.records ≡ map base_record vs → map (λ v. v.reiterated) vs ≡ map (reiterated_of x) (places (length x.records))
base_repeats x vs is =
    by_place (λ v. v.reiterated) (reiterated_of x) 0 vs (λ i v there. ap (reiterated_of x) (let e : 0 + i ≡ i = omega arith in e) ∙ ap (λ rs. option_map_or (λ r. reiterated_in r i) (slice_get rs i) i) is
    ∙ ap (λ o. option_map_or (λ r. reiterated_in r i) o i) (get_map base_record vs i v there))
    ∙ ap (λ n. map (reiterated_of x) (places n)) (sym (ap length is ∙ length-map vs base_record))

itself_at : {X : Type 0} (as_record : X → Record) (own : (v : X) (j : ℕ) → reiterated_in (as_record v) j ≡ j) (vs : List X) (i j : ℕ) → option_map_or (λ r. reiterated_in r j) (slice_get (map as_record vs) i) j ≡ j
itself_at as_record own [] i j = refl
itself_at as_record own (v ∷ vs) zero j = own v j
itself_at as_record own (v ∷ vs) (suc i) j = itself_at as_record own vs i j

pub map_itself : (at : ℕ → ℕ) (xs : List ℕ) → ((i : ℕ) → at i ≡ i) → xs ≡ map at xs
map_itself at [] h = refl
map_itself at (x ∷ xs) h = ap (λ ys. x ∷ ys) (map_itself at xs h) ∙ ap (λ y. y ∷ map at xs) (sym (h x))

-- versions of a carrier repeat nothing
pub carrier_repeats : {X : Type 0} (as_record : X → Record) → ((v : X) (j : ℕ) → reiterated_in (as_record v) j ≡ j) → (x : Buffer) (vs : List X) → x.records ≡ map as_record vs → places (length vs) ≡ map (reiterated_of x) (places (length x.records))
carrier_repeats as_record own x vs is =
    map_itself (reiterated_of x) (places (length vs)) (λ i. ap (λ rs. option_map_or (λ r. reiterated_in r i) (slice_get rs i) i) is ∙ itself_at as_record own vs i i)
    ∙ ap (λ n. map (reiterated_of x) (places n)) (sym (ap length is ∙ length-map vs as_record))

pub none_left : {X : Type 0} (p : X → Bool) (xs : List X) → list_any p xs ≡ false → filter (λ y. not (p y)) xs ≡ xs
none_left p [] h = refl
none_left p (y ∷ ys) h = by (p y) refl h (none_left p ys)
  where
    by : (q : Bool) → p y ≡ q → (q || list_any p ys) ≡ false → (list_any p ys ≡ false → filter (λ z. not (p z)) ys ≡ ys) → filter (λ z. not (p z)) (y ∷ ys) ≡ y ∷ ys
    by true is h more = absurd (cc)
    by false is h more = rw is (ap (λ zs. y ∷ zs) (more h))

pub base_unzoned : (x y : Base) (n : ℕ) (live : Bool) → live ≡ is_live x.regions n → y.regions ≡ without_region x.regions n → y.chain ≡ x.chain → live ≡ false → known (Held.Base y) ≡ known (Held.Base x)
base_unzoned x y n live is regions chain dead =
    let none : filter (λ r. not (is_numbered n r)) x.regions.regions ≡ x.regions.regions = none_left (is_numbered n) x.regions.regions (sym is ∙ dead) in
    let same : y.regions ≡ x.regions = regions ∙ ap (with_zones x.regions.given) none in
    rw (chain, same) refl
  where
    with_zones : ℕ → List Region → LiveRegions
    with_zones given rs = record { regions = rs; given = given }

abbrev pub text_kept : Version → List ℕ
text_kept v = v.text

abbrev pub text_shown : Shown → List ℕ
text_shown v = v.text

-- one version more of a base, and of a projection
pub base_grown : (x y : Base) (s : NextVersion) (m : Move) → m.planned ≡ Planned.Base s → y.chain.buffer ≡ x.chain.buffer → y.chain.versions ≡ x.chain.versions ++ version s.snapshot.text s.reiterated ∷ [] → y.chain.changes ≡ x.chain.changes ++ s.changes ∷ []
    → y.regions.regions ≡ regions_after (step s.changes) x.regions.regions → y.regions.given ≡ x.regions.given → known (Held.Base y) ≡ known_grown (known (Held.Base x)) m
base_grown x y s m is number versions changes regions given =
    rw (is, number, versions, changes, regions, given, map-append base_record x.chain.versions (version s.snapshot.text s.reiterated ∷ []), map-append text_kept x.chain.versions (version s.snapshot.text s.reiterated ∷ [])) refl

pub projection_grown : (p q : Projection) (turns : ℕ) (n : Next) (m : Move) → m.planned ≡ Planned.Projection n → q.buffer ≡ p.buffer → q.versions ≡ p.versions ++ shown n.members n.sources n.snapshot.text ∷ [] → q.changes ≡ p.changes ++ n.changes ∷ []
    → q.resolver ≡ p.resolver → known (Held.Projection q turns) ≡ known_grown (known (Held.Projection p turns)) m
projection_grown p q turns n m is number versions changes resolver =
    rw (is, number, versions, changes, resolver, map-append record_of p.versions (shown n.members n.sources n.snapshot.text ∷ []), map-append text_shown p.versions (shown n.members n.sources n.snapshot.text ∷ [])) refl

-- ---- buffers that are known alike turn alike

pub turn_kept : (h h₂ : Held) → (known h₂).buffer ≡ (known h).buffer → 0 < length (known h).buffer.records → CanTurn h → CanTurn h₂
turn_kept (Held.Base x) h₂ same some may = absurd may
turn_kept (Held.Projection p turns) (Held.Projection p₂ turns₂) same some may = subst (λ k. k + 1 < 2 ^ 32) (sym (ap (λ (x : Buffer). x.turns) same)) may
turn_kept (Held.Projection p turns) (Held.Base x) same some may =
    let carrier : is_carrier (last_of (known (Held.Projection p turns)).buffer) ≡ true = ap is_carrier (projection_last p turns (omega (arith, some, length-map p.versions record_of))) in
    let bare : is_carrier (last_of (known (Held.Base x)).buffer) ≡ false = base_last x.chain.versions (length (known (Held.Base x)).buffer.records - 1) in
    absurd (let e : true ≡ false = sym carrier ∙ (ap (λ y. is_carrier (last_of y)) (sym same) ∙ bare) in cc)
turn_kept (Held.Projection p turns) (Held.Elision e₂ turns₂) same some may = subst (λ k. k + 1 < 2 ^ 32) (sym (ap (λ (x : Buffer). x.turns) same)) may
turn_kept (Held.Elision e turns) (Held.Projection p₂ turns₂) same some may = subst (λ k. k + 1 < 2 ^ 32) (sym (ap (λ (x : Buffer). x.turns) same)) may
turn_kept (Held.Elision e turns) (Held.Elision e₂ turns₂) same some may = subst (λ k. k + 1 < 2 ^ 32) (sym (ap (λ (x : Buffer). x.turns) same)) may
turn_kept (Held.Elision e turns) (Held.Base x) same some may =
    let carrier : is_carrier (last_of (known (Held.Elision e turns)).buffer) ≡ true = ap is_carrier (elision_last e turns (omega (arith, some, length-map e.versions (elisions.record_of e.source)))) in
    let bare : is_carrier (last_of (known (Held.Base x)).buffer) ≡ false = base_last x.chain.versions (length (known (Held.Base x)).buffer.records - 1) in
    absurd (let h : true ≡ false = sym carrier ∙ (ap (λ y. is_carrier (last_of y)) (sym same) ∙ bare) in cc)

-- ---- a base stands on nothing

pub base_idle : (b : ℕ) (steps : ℕ → Option SourceStep) (sources : List Snapshot) (vs : List Version) (i : ℕ) → CanGoOn b steps sources (unwrap_or (slice_get (map base_record vs) i) (base [] 0)) → ⊥
base_idle b steps sources [] i h = h
base_idle b steps sources (v ∷ vs) zero h = h
base_idle b steps sources (v ∷ vs) (suc i) h = base_idle b steps sources vs i h

pub base_sources : (vs : List Version) (i : ℕ) → sources_of (unwrap_or (slice_get (map base_record vs) i) (base [] 0)) ≡ []
base_sources [] i = refl
base_sources (v ∷ vs) zero = refl
base_sources (v ∷ vs) (suc i) = base_sources vs i

-- ---- the version that comes next of a projection

pub same_known : (p q : Projection) (turns : ℕ) → IsUnchanged p q → known (Held.Projection q turns) ≡ known (Held.Projection p turns)
same_known p q turns same = rw (same.buffer, same.versions, same.changes, same.resolver) refl

module _ (p : Projection) (turns : ℕ) (some : 0 < length p.versions) where
  abbrev k : Known
  k = known (Held.Projection p turns)

  text_last : text_of k (length k.buffer.records - 1) ≡ (shown_now p).text
  text_last =
      ap (λ n. unwrap_or (slice_get (map text_shown p.versions) (n - 1)) []) (length-map p.versions record_of)
      ∙ ap (λ o. unwrap_or o []) (get_map text_shown p.versions (length p.versions - 1) (shown_now p) (get_last p.versions some (shown [] [] [])))

  module _ (stays : ℕ → Option ℕ) (steps : ℕ → Option SourceStep) (sources : List Snapshot) (list : List Member) (q : Projection) (n : Next) (same : IsUnchanged p q) (shows : Shows stays steps sources p list n) (planned : projections.IsPlanned q n) where
    record_is : projection n.members n.sources ≡ projection list (versions_of sources)
    record_is = ap (λ ms. projection ms n.sources) shows.members ∙ ap (projection list) shows.versions

    step_is : carrier_step stays steps (record_of (shown_now p)) (projection n.members n.sources) ≡ carrier_step stays steps (last_of (known (Held.Projection p turns)).buffer) (projection list (versions_of sources))
    step_is = ap (λ r. carrier_step stays steps r (projection n.members n.sources)) (sym (projection_last p turns some)) ∙ ap (carrier_step stays steps (last_of k.buffer)) record_is

    pub follows_shown : Follows stays steps sources (known (Held.Projection p turns)) (projection list (versions_of sources)) (Planned.Projection n)
    follows_shown = record {
      record_is = record_is;
      text = shows.text ∙ ap (text_over (text_in sources)) shows.members;
      changes = shows.step.changes ∙ ap (λ x. change_list x n.snapshot.text) step_is;
      step = shows.step.step ∙ step_is;
      number = planned.buffer ∙ same.buffer;
      version = planned.version ∙ ap length same.versions ∙ sym (length-map p.versions record_of);
      from = planned.from ∙ ap (λ (vs : List Shown). length (version_at vs (length vs - 1)).text) same.versions ∙ ap length (sym text_last);
      to = planned.to;
      long = planned.long ∙ ap members_len shows.members;
    }

  module _ (steps : ℕ → Option SourceStep) (sources : List Snapshot) (q : Projection) where
    then_is : record_then steps sources (known (Held.Projection p turns)) ≡ projection (members_next steps p) (versions_of sources)
    then_is = ap (next_of p.buffer steps (versions_of sources)) (projection_last p turns some)

    long_is : Answers {X = Planned} (too_long (members_len (members_next steps p))) ≡ Answers (too_long (members_len (members_of (record_then steps sources (known (Held.Projection p turns))))))
    long_is = ap (λ r. Answers (too_long (members_len (members_of r)))) (sym then_is)

    pub advances_ok : (n : Next) → GoesAlong steps sources p q (Ok n) → Advances steps sources (Held.Projection p turns) (Held.Projection q turns) (Ok (Planned.Projection n))
    advances_ok n along = record {
      same = same_known p q turns along.same;
      within = subst (λ r. All (EndsInNew steps) (members_of r)) (sym then_is) along.within;
      fault = subst (λ r. Answers {X = Planned} (too_long (members_len (members_of r))) (Ok (Planned.Projection n))) (sym then_is) (none_told (too_long (members_len (members_next steps p))) along.fault);
      next = subst (λ r. Follows all_stay steps sources (known (Held.Projection p turns)) r (Planned.Projection n)) (sym then_is) (follows_shown all_stay steps sources (members_next steps p) q n along.same along.next along.planned);
      made = along.planned;
    }
      where
        none_told : (o : Option ProjectionFault) → Answers {X = Next} o (Ok n) → Answers {X = Planned} o (Ok (Planned.Projection n))
        none_told None h = tt
        none_told (Some f) h = absurd h

    pub advances_err : (e : ProjectionFault) → GoesAlong steps sources p q (Err e) → Advances steps sources (Held.Projection p turns) (Held.Projection q turns) (Err e)
    advances_err e along = record {
      same = same_known p q turns along.same;
      within = subst (λ r. EndsWithin {X = Planned} steps (members_of r) (Err e)) (sym then_is) (ends e along.within);
      fault = subst (λ r. Answers {X = Planned} (too_long (members_len (members_of r))) (Err e)) (sym then_is) (told (too_long (members_len (members_next steps p))) along.fault);
      next = tt;
      made = tt;
    }
      where
        ends : (e : ProjectionFault) → EndsWithin {X = Next} steps (members_next steps p) (Err e) → EndsWithin {X = Planned} steps (members_next steps p) (Err e)
        ends (ProjectionFault.Units n) h = h
        ends ProjectionFault.OutOfMemory h = h

        told : (o : Option ProjectionFault) → Answers {X = Next} o (Err e) → Answers {X = Planned} o (Err e)
        told None h = h
        told (Some f) h = h

  module _ (sources : List Snapshot) (first removed : ℕ) (members : List Member) (q : Projection) where
    shown_is : held_members (Held.Projection p turns) ≡ (shown_now p).members
    shown_is = ap members_of (projection_last p turns some)

    pub part_shown : IsPart (held_members (Held.Projection p turns)) first removed members → IsPart (shown_now p).members first removed members
    part_shown part = subst (λ ms. IsPart ms first removed members) shown_is part

    pub respans_ok : (n : Next) → Respans sources p q first removed members (Ok n) → HasRespanned sources (Held.Projection p turns) (Held.Projection q turns) first removed members (Ok (Planned.Projection n))
    respans_ok n done = record {
      same = same_known p q turns done.same;
      next = subst (λ ms. Follows (stay_around first removed (length (added_in first removed ms members))) no_steps sources (known (Held.Projection p turns)) (projection members (versions_of sources)) (Planned.Projection n)) (sym shown_is)
          (follows_shown (stay_around first removed (length (added_in first removed (shown_now p).members members))) no_steps sources members q n done.same done.next done.planned);
      made = done.planned;
    }

    pub respans_err : (e : OutOfMemory) → Respans sources p q first removed members (Err e) → HasRespanned sources (Held.Projection p turns) (Held.Projection q turns) first removed members (Err e)
    respans_err e done = record { same = same_known p q turns done.same; next = tt; made = tt }

-- ---- answers

-- what is so of an answer for all is so for one
pub if_for : {X S : Type 0} (P : X → S → Type 0) (r : Result X OutOfMemory) (x : S) → IfOk r (λ t. (s : S) → P t s) → IfOk r (λ t. P t x)
if_for P (Ok t) x h = h x
if_for P (Err e) x h = tt
