-- What is known of an elision buffer.
use Rattle.std.proofs.Common.{◌≡◌, ℕ, zero, suc, ◌+◌, ◌-◌, ◌<◌, ◌≤◌, ◌^◌, Bool, true, false, List, [], ◌∷◌, ◌++◌, length, map, Option, Some, None, Ok, Err, refl, sym, ap, ◌∙◌, subst, arith}
use Rattle.std.specs.Prelude.{All, IfOk, MatchOption, Result, flat_map, not, nat_eq, slice_get, slice_range, take, unwrap_or, if◌then◌else◌}
use Rattle.std.specs.Option.{option_map_or}
use Rattle.std.specs.List.{AllByRecursion as Each, enumerate_from, range_with_len}
use Rattle.std.proofs.lemmas.Bool.{eqb-true, le-ltb}
use Rattle.std.proofs.lemmas.List.{length-map, map-append}
use Rattle.std.proofs.lemmas.List.FromFn.{length-map-range_with_len}
use Rattle.std.proofs.lemmas.List.Sums.{count_by-le-length}
use Rattle.ed_base.specs.ChangeList.{change_list, step}
use Rattle.ed_base.specs.Runs.{runs}
use Rattle.ed_base.specs.declared.Span.{Span}
use Rattle.ed_base.specs.Spans.{end_of}
use Rattle.ed_base.specs.declared.OutOfMemory.{OutOfMemory}
use Rattle.ed_elide.specs.Records.{Elision, Next, IsPlanned, IsShown, IsStep, IsUnchanged, record_next, record_of, shown, shown_now, version_at}
use Rattle.ed_elide.specs.declared.version.ElisionVersion.{ElisionVersion}
use Rattle.ed_layers.specs.CarrierStep.{Slot, all_stay, carrier_step, member_slots, record_trails, slot_trail}
use Rattle.ed_layers.specs.Hidden.{flags_after}
use Rattle.ed_base.specs.declared.Member.{Member}
use Rattle.ed_layers.specs.Records.{Record, base, projection, elision, is_shown, members_len, members_of, tracked, version_in}
use Rattle.ed_stock.specs.Making.{flags_of}
use Rattle.ed_layers.specs.SourceStep as layers
use Rattle.ed_members.specs.Moving.{EndsInNew}
use Rattle.ed_members.specs.Steps.{step_seen, steps_seen}
use Rattle.ed_members.specs.declared.steps.SourceStep.{SourceStep}
use Rattle.ed_project.specs.Planning.{Answers, too_long}
use Rattle.ed_project.specs.Texts.{found_text, member_text, no_steps, text_in, text_over, versions_of}
use Rattle.ed_risen.proofs.Lists.{get_map}
use Rattle.ed_risen.proofs.RisingLemmas.{get_last}
use Rattle.ed_risen.proofs.Runs.{places_of, runs_end, runs_places}
use Rattle.ed_risen.proofs.Settled.{all_of}
use Rattle.ed_version.specs.declared.Snapshot.{Snapshot}
use Rattle.ed_held.specs.Advancing.{Advances, AreOfSource, CanGoOn, next_of, record_then}
use Rattle.ed_held.specs.Following.{Follows}
use Rattle.ed_held.specs.Making.{known_grown}
use Rattle.ed_held.specs.OfElisions.{GoesHidden, Hides, found_snapshot, found_step}
use Rattle.ed_held.specs.Rehiding.{HasRehidden, with_flags}
use Rattle.ed_held.specs.Seen.{Known, known, last_of, text_of}
use Rattle.ed_held.specs.declared.held.Held.{Held}
use Rattle.ed_held.specs.declared.moves.Move.{Move}
use Rattle.ed_held.specs.declared.moves.Planned.{Planned}

abbrev pub text_hidden : ElisionVersion → List ℕ
text_hidden v = v.text

pub elision_last : (e : Elision) (turns : ℕ) → 0 < length e.versions → last_of (known (Held.Elision e turns)).buffer ≡ record_of e.source (shown_now e)
elision_last e turns some =
    ap (λ n. unwrap_or (slice_get (map (record_of e.source) e.versions) (n - 1)) (base [] 0)) (length-map e.versions (record_of e.source))
    ∙ ap (λ o. unwrap_or o (base [] 0)) (get_map (record_of e.source) e.versions (length e.versions - 1) (shown_now e) (get_last e.versions some (shown [] 0 [] [] [])))

-- one version more
pub elision_grown : (e f : Elision) (turns : ℕ) (n : Next) (m : Move) → m.planned ≡ Planned.Elision n → n.source ≡ e.source → f.buffer ≡ e.buffer → f.source ≡ e.source
    → f.versions ≡ e.versions ++ shown n.hidden n.version n.members n.sources n.snapshot.text ∷ [] → f.changes ≡ e.changes ++ n.changes ∷ [] → f.resolver ≡ e.resolver
    → known (Held.Elision f turns) ≡ known_grown (known (Held.Elision e turns)) m
elision_grown e f turns n m is own number source versions changes resolver =
    rw (is, own, number, source, versions, changes, resolver, map-append (record_of e.source) e.versions (shown n.hidden n.version n.members n.sources n.snapshot.text ∷ []), map-append text_hidden e.versions (shown n.hidden n.version n.members n.sources n.snapshot.text ∷ [])) refl

pub same_elision : (e f : Elision) (turns : ℕ) → IsUnchanged e f → known (Held.Elision f turns) ≡ known (Held.Elision e turns)
same_elision e f turns same = rw (same.buffer, same.source, same.versions, same.changes, same.resolver) refl

-- ---- what is found among snapshots and steps

pub found_here : (ss : List Snapshot) (b : ℕ) (s : Snapshot) → found_snapshot ss b ≡ Some s → (s.buffer ≡ b) × (found_text ss b ≡ Some s.text) × (version_in (versions_of ss) b ≡ Some s.version)
found_here [] b s e = absurd (cc)
found_here (x ∷ xs) b s e = by (nat_eq x.buffer b) refl e (found_here xs b s)
  where
    by : (t : Bool) → nat_eq x.buffer b ≡ t → (if t then Some x else found_snapshot xs b) ≡ Some s → (found_snapshot xs b ≡ Some s → (s.buffer ≡ b) × (found_text xs b ≡ Some s.text) × (version_in (versions_of xs) b ≡ Some s.version))
        → (s.buffer ≡ b) × (found_text (x ∷ xs) b ≡ Some s.text) × (version_in (versions_of (x ∷ xs)) b ≡ Some s.version)
    by true is e more =
        let same : x ≡ s = cc in
        (ap (λ (y : Snapshot). y.buffer) (sym same) ∙ eqb-true x.buffer b is, rw is (ap (λ (y : Snapshot). Some y.text) same), rw is (ap (λ (y : Snapshot). Some y.version) same))
    by false is e more = let m : (s.buffer ≡ b) × (found_text xs b ≡ Some s.text) × (version_in (versions_of xs) b ≡ Some s.version) = more e in (m.0, rw is m.1, rw is m.2)

pub none_found : (ss : List Snapshot) (b : ℕ) → found_snapshot ss b ≡ None → found_text ss b ≡ None
none_found [] b e = refl
none_found (x ∷ xs) b e = by (nat_eq x.buffer b) refl e (none_found xs b)
  where
    by : (t : Bool) → nat_eq x.buffer b ≡ t → (if t then Some x else found_snapshot xs b) ≡ None → (found_snapshot xs b ≡ None → found_text xs b ≡ None) → found_text (x ∷ xs) b ≡ None
    by true is e more = absurd (cc)
    by false is e more = rw is (more e)

pub stepped_here : (ss : List SourceStep) (b : ℕ) (s : SourceStep) → found_step ss b ≡ Some s → (s.source ≡ b) × (steps_seen ss b ≡ Some (step_seen s))
stepped_here [] b s e = absurd (cc)
stepped_here (x ∷ xs) b s e = by (nat_eq x.source b) refl e (stepped_here xs b s)
  where
    by : (t : Bool) → nat_eq x.source b ≡ t → (if t then Some x else found_step xs b) ≡ Some s → (found_step xs b ≡ Some s → (s.source ≡ b) × (steps_seen xs b ≡ Some (step_seen s))) → (s.source ≡ b) × (steps_seen (x ∷ xs) b ≡ Some (step_seen s))
    by true is e more =
        let same : x ≡ s = cc in
        (ap (λ (y : SourceStep). y.source) (sym same) ∙ eqb-true x.source b is, rw is (ap (λ (y : SourceStep). Some (step_seen y)) same))
    by false is e more = let m : (s.source ≡ b) × (steps_seen xs b ≡ Some (step_seen s)) = more e in (m.0, rw is m.1)

pub none_stepped : (ss : List SourceStep) (b : ℕ) → found_step ss b ≡ None → steps_seen ss b ≡ None
none_stepped [] b e = refl
none_stepped (x ∷ xs) b e = by (nat_eq x.source b) refl e (none_stepped xs b)
  where
    by : (t : Bool) → nat_eq x.source b ≡ t → (if t then Some x else found_step xs b) ≡ None → (found_step xs b ≡ None → steps_seen xs b ≡ None) → steps_seen (x ∷ xs) b ≡ None
    by true is e more = absurd (cc)
    by false is e more = rw is (more e)

-- ---- what an elision buffer needs of its source

pub source_there : (b : ℕ) (steps : ℕ → Option layers.SourceStep) (sources : List Snapshot) (e : Elision) → CanGoOn b steps sources (record_of e.source (shown_now e)) → found_snapshot sources e.source ≡ None → ⊥
source_there b steps sources e can none = subst (λ o. MatchOption o ⊥ (AreOfSource steps e.source (length (shown_now e).hidden))) (none_found sources e.source none) can

pub of_source : (b : ℕ) (steps : ℕ → Option layers.SourceStep) (sources : List Snapshot) (e : Elision) (s : Snapshot) → CanGoOn b steps sources (record_of e.source (shown_now e)) → found_snapshot sources e.source ≡ Some s → AreOfSource steps e.source (length (shown_now e).hidden) s.text
of_source b steps sources e s can is = subst (λ o. MatchOption o ⊥ (AreOfSource steps e.source (length (shown_now e).hidden))) (found_here sources e.source s is).1 can

pub rests : (steps : ℕ → Option layers.SourceStep) (source n : ℕ) (text : List ℕ) → AreOfSource steps source n text → steps source ≡ None → n ≡ length text
rests steps source n text are none = subst (λ o. MatchOption o (n ≡ length text) (λ (x : layers.SourceStep). (x.step.old_len ≡ n) × (x.step.new_len ≡ length text))) none are.1

pub goes : (steps : ℕ → Option layers.SourceStep) (source n : ℕ) (text : List ℕ) (x : layers.SourceStep) → AreOfSource steps source n text → steps source ≡ Some x → (x.step.old_len ≡ n) × (x.step.new_len ≡ length text)
goes steps source n text x are is = subst (λ o. MatchOption o (n ≡ length text) (λ (x : layers.SourceStep). (x.step.old_len ≡ n) × (x.step.new_len ≡ length text))) is are.1

-- the hidden places that come next
abbrev pub flags_next : ℕ → (ℕ → Option layers.SourceStep) → Elision → List Bool
flags_next b steps e = option_map_or (λ x. flags_after b x (shown_now e).hidden) (steps e.source) (shown_now e).hidden

pub flags_next_len : (b : ℕ) (steps : ℕ → Option layers.SourceStep) (e : Elision) (text : List ℕ) → AreOfSource steps e.source (length (shown_now e).hidden) text → length (flags_next b steps e) ≡ length text
flags_next_len b steps e text are = by (steps e.source) are.1
  where
    by : (o : Option layers.SourceStep) → MatchOption o (length (shown_now e).hidden ≡ length text) (λ (x : layers.SourceStep). (x.step.old_len ≡ length (shown_now e).hidden) × (x.step.new_len ≡ length text))
        → length (option_map_or (λ x. flags_after b x (shown_now e).hidden) o (shown_now e).hidden) ≡ length text
    by None h = h
    by (Some x) h = length-map-range_with_len _ 0 x.step.new_len ∙ h.1

-- ---- the text of runs of one source

pub text_runs : (f g : ℕ → List ℕ) (source : ℕ) (xs : List Span) → f source ≡ g source → text_over f (map (tracked source) xs) ≡ text_over g (map (tracked source) xs)
text_runs f g source [] same = refl
text_runs f g source (x ∷ xs) same =
    ap (λ t. member_text f (tracked source x) ++ t) (text_runs f g source xs same)
    ∙ ap (λ t. slice_range t x.start (end_of x) ++ text_over g (map (tracked source) xs)) same

-- a version planned of an elision buffer, as it is told
pub hides_by : (steps : ℕ → Option layers.SourceStep) (sources : List Snapshot) (e f : Elision) (s : Snapshot) (new : List Bool) (v : ℕ) (result : Result Next OutOfMemory) → found_snapshot sources e.source ≡ Some s → IsUnchanged e f
    → IfOk result (λ n. n.hidden ≡ new) → IfOk result (λ n. n.version ≡ s.version) → IfOk result (λ n. n.snapshot.text ≡ text_over (λ b. s.text) n.members) → IfOk result (IsStep steps e) → IfOk result (IsPlanned f)
    → GoesHidden steps sources e f (elision new e.source (unwrap_or (version_in (versions_of sources) e.source) v)) result
hides_by steps sources e f s new v result found same hidden version text step planned = record { same = same; next = by result hidden version text step planned; planned = planned }
  where
    by : (result : Result Next OutOfMemory) → IfOk result (λ n. n.hidden ≡ new) → IfOk result (λ n. n.version ≡ s.version) → IfOk result (λ n. n.snapshot.text ≡ text_over (λ b. s.text) n.members) → IfOk result (IsStep steps e) → IfOk result (IsPlanned f)
        → IfOk result (Hides steps sources e (elision new e.source (unwrap_or (version_in (versions_of sources) e.source) v)))
    by (Err x) hidden version text step planned = tt
    by (Ok n) hidden version text step planned =
        let here : (s.buffer ≡ e.source) × (found_text sources e.source ≡ Some s.text) × (version_in (versions_of sources) e.source ≡ Some s.version) = found_here sources e.source s found in
        let own : n.source ≡ e.source = planned.source ∙ same.source in
        let is : record_next n ≡ elision new e.source (unwrap_or (version_in (versions_of sources) e.source) v) =
        ap (λ h. elision h n.source n.version) hidden ∙ ap (λ b. elision new b n.version) own ∙ ap (elision new e.source) (version ∙ ap (λ o. unwrap_or o v) (sym here.2)) in
        let members : n.members ≡ members_of (record_next n) = planned.shown.members ∙ ap (λ b. members_of (elision n.hidden b n.version)) (sym planned.source) in
        record {
          record_is = is;
          text = text ∙ ap (text_over (λ b. s.text)) members ∙ text_runs (λ b. s.text) (text_in sources) n.source (runs (is_shown n.hidden) (length n.hidden)) (ap (λ o. unwrap_or o []) (sym here.1) ∙ ap (text_in sources) (sym own))
              ∙ ap (λ r. text_over (text_in sources) (members_of r)) is;
          step = step;
        }

-- ---- the version that comes next

module _ (e : Elision) (turns : ℕ) (some : 0 < length e.versions) where
  abbrev k : Known
  k = known (Held.Elision e turns)

  text_last : text_of k (length k.buffer.records - 1) ≡ (shown_now e).text
  text_last =
      ap (λ n. unwrap_or (slice_get (map text_hidden e.versions) (n - 1)) []) (length-map e.versions (record_of e.source))
      ∙ ap (λ o. unwrap_or o []) (get_map text_hidden e.versions (length e.versions - 1) (shown_now e) (get_last e.versions some (shown [] 0 [] [] [])))

  module _ (steps : ℕ → Option layers.SourceStep) (sources : List Snapshot) (f : Elision) (r : Record) (n : Next) (same : IsUnchanged e f) (hides : Hides steps sources e r n) (planned : IsPlanned f n) where
    step_is : carrier_step all_stay steps (record_of e.source (shown_now e)) (record_next n) ≡ carrier_step all_stay steps (last_of k.buffer) r
    step_is = ap (λ x. carrier_step all_stay steps x (record_next n)) (sym (elision_last e turns some)) ∙ ap (carrier_step all_stay steps (last_of k.buffer)) hides.record_is

    long_is : length n.snapshot.text ≡ members_len (members_of r)
    long_is =
        planned.shown.long ∙ ap members_len (planned.shown.members ∙ ap (λ b. members_of (elision n.hidden b n.version)) (sym planned.source)) ∙ ap (λ x. members_len (members_of x)) hides.record_is

    pub follows_hidden : Follows all_stay steps sources (known (Held.Elision e turns)) r (Planned.Elision n)
    follows_hidden = record {
      record_is = hides.record_is;
      text = hides.text;
      changes = hides.step.changes ∙ ap (λ x. change_list x n.snapshot.text) step_is;
      step = hides.step.step ∙ step_is;
      number = planned.buffer ∙ same.buffer;
      version = planned.version ∙ ap length same.versions ∙ sym (length-map e.versions (record_of e.source));
      from = planned.from ∙ ap (λ (vs : List ElisionVersion). length (version_at vs (length vs - 1)).text) same.versions ∙ ap length (sym text_last);
      to = planned.to;
      long = long_is;
    }

    -- it shows no more than there is
    pub fits_hidden : length n.hidden ≤ 2 ^ 22 → members_len (members_of r) ≤ 2 ^ 22
    fits_hidden few = omega (arith, long_is, planned.shown.near, count_by-le-length not (take (length n.hidden) n.hidden), take_len (length n.hidden) n.hidden, few)
      where
        take_len : (m : ℕ) (xs : List Bool) → length (take m xs) ≤ length xs
        take_len zero xs = omega arith
        take_len (suc m) [] = omega arith
        take_len (suc m) (x ∷ xs) = let l : length (take m xs) ≤ length xs = take_len m xs in omega arith

  module _ (steps : ℕ → Option layers.SourceStep) (sources : List Snapshot) (f : Elision) where
    abbrev next : Record
    next = next_of e.buffer steps (versions_of sources) (record_of e.source (shown_now e))

    then_is : record_then steps sources (known (Held.Elision e turns)) ≡ next
    then_is = ap (next_of e.buffer steps (versions_of sources)) (elision_last e turns some)

    flags_len : (s : Snapshot) → found_snapshot sources e.source ≡ Some s → CanGoOn e.buffer steps sources (record_of e.source (shown_now e)) → (length (flags_next e.buffer steps e) ≡ length s.text) × (length s.text ≤ 2 ^ 22)
    flags_len s found can = let are : AreOfSource steps e.source (length (shown_now e).hidden) s.text = of_source e.buffer steps sources e s can found in (flags_next_len e.buffer steps e s.text are, are.0)

    ends_in : (xs : List Span) (m : ℕ) → Each (λ x. end_of x ≤ m) xs → MatchOption (steps e.source) (Unit {0}) (λ x. m ≡ x.step.new_len) → Each (EndsInNew steps) (map (tracked e.source) xs)
    ends_in [] m low size = tt
    ends_in (x ∷ xs) m low size = (by (steps e.source) size, ends_in xs m low.1 size)
      where
        by : (o : Option layers.SourceStep) → MatchOption o (Unit {0}) (λ y. m ≡ y.step.new_len) → MatchOption o (Unit {0}) (λ y. end_of x ≤ y.step.new_len)
        by None size = tt
        by (Some y) size = subst (λ j. end_of x ≤ j) size low.0

    size_of : (s : Snapshot) → found_snapshot sources e.source ≡ Some s → CanGoOn e.buffer steps sources (record_of e.source (shown_now e)) → MatchOption (steps e.source) (Unit {0}) (λ x. length (flags_next e.buffer steps e) ≡ x.step.new_len)
    size_of s found can =
        let are : AreOfSource steps e.source (length (shown_now e).hidden) s.text = of_source e.buffer steps sources e s can found in
        by (steps e.source) are.1
      where
        by : (o : Option layers.SourceStep) → MatchOption o (length (shown_now e).hidden ≡ length s.text) (λ (x : layers.SourceStep). (x.step.old_len ≡ length (shown_now e).hidden) × (x.step.new_len ≡ length s.text)) → MatchOption o (Unit {0}) (λ x. length (flags_next e.buffer steps e) ≡ x.step.new_len)
        by None h = tt
        by (Some x) h = (flags_len s found can).0 ∙ sym h.1

    advances_hidden : (s : Snapshot) (n : Next) → found_snapshot sources e.source ≡ Some s → CanGoOn e.buffer steps sources (record_of e.source (shown_now e)) → GoesHidden steps sources e f next (Ok n) → Advances steps sources (Held.Elision e turns) (Held.Elision f turns) (Ok (Planned.Elision n))
    advances_hidden s n found can along =
        let size : (length (flags_next e.buffer steps e) ≡ length s.text) × (length s.text ≤ 2 ^ 22) = flags_len s found can in
        let hidden : n.hidden ≡ flags_next e.buffer steps e = ap flags_in along.next.record_is in
        let few : members_len (members_of next) ≤ 2 ^ 22 = fits_hidden steps sources f next n along.same along.next along.planned (let l : length n.hidden ≡ length (flags_next e.buffer steps e) = ap length hidden in omega (arith, size.0, size.1)) in
        record {
          same = same_elision e f turns along.same;
          within = subst (λ r. All (EndsInNew steps) (members_of r)) (sym then_is) (all_of (EndsInNew steps) (members_of next) (ends_in (runs (is_shown (flags_next e.buffer steps e)) (length (flags_next e.buffer steps e))) (length (flags_next e.buffer steps e)) (runs_end (is_shown (flags_next e.buffer steps e)) (length (flags_next e.buffer steps e))) (size_of s found can)));
          fault = subst (λ r. Answers {X = Planned} (too_long (members_len (members_of r))) (Ok (Planned.Elision n))) (sym then_is) (rw (le-ltb (2 ^ 22) (members_len (members_of next)) few) tt);
          next = subst (λ r. Follows all_stay steps sources (known (Held.Elision e turns)) r (Planned.Elision n)) (sym then_is) (follows_hidden steps sources f next n along.same along.next along.planned);
          made = along.planned;
        }
      where
        flags_in : Record → List Bool
        flags_in (elision flags source version) = flags
        flags_in _ = []

    pub advances_along : (n : Next) → CanGoOn e.buffer steps sources (record_of e.source (shown_now e)) → GoesHidden steps sources e f next (Ok n) → Advances steps sources (Held.Elision e turns) (Held.Elision f turns) (Ok (Planned.Elision n))
    advances_along n can along = by (found_snapshot sources e.source) refl
      where
        by : (o : Option Snapshot) → found_snapshot sources e.source ≡ o → Advances steps sources (Held.Elision e turns) (Held.Elision f turns) (Ok (Planned.Elision n))
        by None is = absurd (source_there e.buffer steps sources e can is)
        by (Some s) is = advances_hidden s n is can along

  pub rehides_ok : (sources : List Snapshot) (f : Elision) (new : List Bool) (n : Next) → GoesHidden no_steps sources e f (with_flags new (next_of e.buffer no_steps (versions_of sources) (record_of e.source (shown_now e)))) (Ok n) → HasRehidden sources (Held.Elision e turns) (Held.Elision f turns) new (Ok (Planned.Elision n))
  rehides_ok sources f new n along = record {
    same = same_elision e f turns along.same;
    next = subst (λ r. Follows all_stay no_steps sources (known (Held.Elision e turns)) r (Planned.Elision n)) (ap (λ r. with_flags new (next_of e.buffer no_steps (versions_of sources) r)) (sym (elision_last e turns some)))
        (follows_hidden no_steps sources f (with_flags new (next_of e.buffer no_steps (versions_of sources) (record_of e.source (shown_now e)))) n along.same along.next along.planned);
    made = along.planned;
  }

-- ---- what the current version shows

pub shows_members : (e : Elision) (turns v : ℕ) (ms : List Member) → 0 < length e.versions → v ≡ length e.versions - 1 → ms ≡ (version_at e.versions v).members → IsShown e.source (version_at e.versions v) → ms ≡ members_of (last_of (known (Held.Elision e turns)).buffer)
shows_members e turns v ms some at is shown = is ∙ shown.members ∙ ap (λ j. members_of (record_of e.source (version_at e.versions j))) at ∙ ap members_of (sym (elision_last e turns some))

pub shows_flags : (e : Elision) (turns v : ℕ) (flags : List Bool) → 0 < length e.versions → v ≡ length e.versions - 1 → flags ≡ (version_at e.versions v).hidden → flags ≡ flags_of (last_of (known (Held.Elision e turns)).buffer)
shows_flags e turns v flags some at is = is ∙ ap (λ j. (version_at e.versions j).hidden) at ∙ ap flags_of (sym (elision_last e turns some))

-- ---- the ways of its units: members aren't told apart

abbrev slot_of : ℕ → ℕ → ℕ → Slot
slot_of i source p = record { member = i; source = Some source; place = p }

abbrev slots_of : ℕ → ℕ → List ℕ → List Slot
slots_of i source ps = map (slot_of i source) ps

module _ (me : ℕ) (steps : ℕ → Option layers.SourceStep) (source : ℕ) where
  abbrev ways : List Slot → List (List (ℕ × ℕ))
  ways slots = map (slot_trail me true steps) slots

  any_member : (i j : ℕ) (ps : List ℕ) → ways (slots_of i source ps) ≡ ways (slots_of j source ps)
  any_member i j [] = refl
  any_member i j (p ∷ ps) = ap (λ ws. slot_trail me true steps (record { member = i; source = Some source; place = p }) ∷ ws) (any_member i j ps)

  run_ways : (k : ℕ) (xs : List Span) → ways (flat_map member_slots (enumerate_from k (map (tracked source) xs))) ≡ ways (slots_of 0 source (places_of xs))
  run_ways k [] = refl
  run_ways k (x ∷ xs) =
      map-append (slot_trail me true steps) (slots_of k source (range_with_len x.start x.len)) (flat_map member_slots (enumerate_from (k + 1) (map (tracked source) xs)))
      ∙ ap (λ ws. ws ++ ways (flat_map member_slots (enumerate_from (k + 1) (map (tracked source) xs)))) (any_member k 0 (range_with_len x.start x.len))
      ∙ ap (λ ws. ways (slots_of 0 source (range_with_len x.start x.len)) ++ ws) (run_ways (k + 1) xs)
      ∙ sym (ap ways (map-append (slot_of 0 source) (range_with_len x.start x.len) (places_of xs)) ∙ map-append (slot_trail me true steps) (slots_of 0 source (range_with_len x.start x.len)) (slots_of 0 source (places_of xs)))

  pub same_ways_of : (flags : List Bool) (version : ℕ) (vs : List (ℕ × ℕ)) → record_trails me true steps (projection (members_of (elision flags source version)) vs) ≡ record_trails me true steps (elision flags source version)
  same_ways_of flags version vs = run_ways 0 (runs (is_shown flags) (length flags)) ∙ ap (λ ps. ways (slots_of 0 source ps)) (sym (runs_places (is_shown flags) (length flags)))

pub same_ways : (me : ℕ) (steps : ℕ → Option layers.SourceStep) (flags : List Bool) (source version : ℕ) (vs : List (ℕ × ℕ)) → record_trails me true steps (projection (members_of (elision flags source version)) vs) ≡ record_trails me true steps (elision flags source version)
same_ways me steps flags source version vs = same_ways_of me steps source flags version vs

-- ---- planned along with its source

step_for : (steps : ℕ → Option layers.SourceStep) (e : Elision) (o : Option layers.SourceStep) (result : Result Next OutOfMemory) → steps e.source ≡ o → IfOk result (λ n. (s : ℕ → Option layers.SourceStep) → s e.source ≡ o → IsStep s e n) → IfOk result (IsStep steps e)
step_for steps e o (Ok n) is h = h steps is
step_for steps e o (Err x) is h = tt

pub goes_by : (steps : ℕ → Option layers.SourceStep) (sources : List Snapshot) (e f : Elision) (s : Snapshot) (x : layers.SourceStep) (result : Result Next OutOfMemory) → found_snapshot sources e.source ≡ Some s → steps e.source ≡ Some x → IsUnchanged e f
    → IfOk result (λ n. n.hidden ≡ flags_after e.buffer x (shown_now e).hidden) → IfOk result (λ n. n.version ≡ s.version) → IfOk result (λ n. n.snapshot.text ≡ text_over (λ b. s.text) n.members) → IfOk result (λ n. (t : ℕ → Option layers.SourceStep) → t e.source ≡ Some x → IsStep t e n) → IfOk result (IsPlanned f)
    → GoesHidden steps sources e f (next_of e.buffer steps (versions_of sources) (record_of e.source (shown_now e))) result
goes_by steps sources e f s x result found is same hidden version text step planned =
    subst (λ o. GoesHidden steps sources e f (elision (option_map_or (λ y. flags_after e.buffer y (shown_now e).hidden) o (shown_now e).hidden) e.source (unwrap_or (version_in (versions_of sources) e.source) (shown_now e).version)) result) (sym is)
    (hides_by steps sources e f s (flags_after e.buffer x (shown_now e).hidden) (shown_now e).version result found same hidden version text (step_for steps e (Some x) result is step) planned)

pub rests_by : (steps : ℕ → Option layers.SourceStep) (sources : List Snapshot) (e f : Elision) (s : Snapshot) (result : Result Next OutOfMemory) → found_snapshot sources e.source ≡ Some s → steps e.source ≡ None → IsUnchanged e f
    → IfOk result (λ n. n.hidden ≡ (shown_now e).hidden) → IfOk result (λ n. n.version ≡ s.version) → IfOk result (λ n. n.snapshot.text ≡ text_over (λ b. s.text) n.members) → IfOk result (λ n. (t : ℕ → Option layers.SourceStep) → t e.source ≡ None → IsStep t e n) → IfOk result (IsPlanned f)
    → GoesHidden steps sources e f (next_of e.buffer steps (versions_of sources) (record_of e.source (shown_now e))) result
rests_by steps sources e f s result found is same hidden version text step planned =
    subst (λ o. GoesHidden steps sources e f (elision (option_map_or (λ y. flags_after e.buffer y (shown_now e).hidden) o (shown_now e).hidden) e.source (unwrap_or (version_in (versions_of sources) e.source) (shown_now e).version)) result) (sym is)
    (hides_by steps sources e f s (shown_now e).hidden (shown_now e).version result found same hidden version text (step_for steps e None result is step) planned)

pub rehides_by : (sources : List Snapshot) (e f : Elision) (s : Snapshot) (new : List Bool) (result : Result Next OutOfMemory) → found_snapshot sources e.source ≡ Some s → IsUnchanged e f
    → IfOk result (λ n. n.hidden ≡ new) → IfOk result (λ n. n.version ≡ s.version) → IfOk result (λ n. n.snapshot.text ≡ text_over (λ b. s.text) n.members) → IfOk result (λ n. (t : ℕ → Option layers.SourceStep) → t e.source ≡ None → IsStep t e n) → IfOk result (IsPlanned f)
    → GoesHidden no_steps sources e f (with_flags new (next_of e.buffer no_steps (versions_of sources) (record_of e.source (shown_now e)))) result
rehides_by sources e f s new result found same hidden version text step planned =
    hides_by no_steps sources e f s new (shown_now e).version result found same hidden version text (step_for no_steps e None result refl step) planned
