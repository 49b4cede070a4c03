-- Runs that are put to what members hold, one after another.
use Rattle.std.proofs.Common.{◌≡◌, ℕ, zero, suc, ◌-◌, ◌<◌, Bool, true, false, List, [], ◌∷◌, length, map, get_or, set, Option, Some, None, refl, sym, ap, subst, ◌∙◌, inl, inr}
use Rattle.std.specs.Prelude.{nat_eq, slice_get, option_map, option_and_then, if◌then◌else◌}
use Rattle.std.specs.Option.{option_map_or}
use Rattle.std.proofs.lemmas.Bool.{cases_lt, cases_eq, cases_Bool, eq-eqb, ne_eqb}
use Rattle.std.proofs.lemmas.List.{get_or-set_same, get_or-set_other}
use Rattle.std.proofs.lemmas.Option.{slice_get-map, slice_get_past}
use Rattle.ed_base.specs.declared.piece.Member.{Member}
use Rattle.ed_base.specs.ChangeList.{step}
use Rattle.ed_layers.specs.Bounds.{held_range}
use Rattle.ed_layers.specs.SourceStep as layers
use Rattle.ed_layers.specs.SourceStep.{ends_with}
use Rattle.ed_members.specs.declared.held.Held.{Held}
use Rattle.ed_pieces.proofs.Cutting.{last_get}
use Rattle.ed_pieces.specs.declared.trails.TrailRun.{TrailRun}
use Rattle.ed_members.specs.declared.steps.SourceStep.{SourceStep}
use Rattle.ed_members.specs.Advance.{AreHeld, IsSound, held_span, index_from, is_owner, is_step, joined, kept_of, kept_range, member_named, owner_in, run_range, step_index, with_run, with_runs, with_steps}
use Rattle.ed_members.specs.Steps.{steps_seen}
use Rattle.ed_members.proofs.Keeping.{held_is, StepOf, steps_one}

pub read_at : {X : Type 0} (xs : List X) (i : ℕ) (x d : X) → slice_get xs i ≡ Some x → get_or xs i d ≡ x
read_at [] i x d is = absurd (cc)
read_at (y ∷ xs) zero x d is = cc
read_at (y ∷ xs) (suc i) x d is = read_at xs i x d is

pub below_at : {X : Type 0} (xs : List X) (i : ℕ) (x : X) → slice_get xs i ≡ Some x → i < length xs
below_at xs i x is = elim (cases_lt i (length xs)) [
  | inl l ↦ l
  | inr g ↦ absurd (let n : slice_get xs i ≡ None = slice_get_past xs i g in cc)
]

pub is_step_below : (k i : ℕ) (indices : List (Option ℕ)) → is_step k (slice_get indices i) ≡ true → i < length indices
is_step_below k i indices is = elim (cases_lt i (length indices)) [
  | inl l ↦ l
  | inr g ↦ absurd (let n : is_step k (slice_get indices i) ≡ false = ap (is_step k) (slice_get_past indices i g) in cc)
]

-- a trail ends with a member where that is the one that it names last
pub owner_ends : (carrier : ℕ) (test : ℕ → Bool) (trail : List (ℕ × ℕ)) → ends_with carrier test trail ≡ option_map_or test (owner_in carrier trail) false
owner_ends carrier test [] = refl
owner_ends carrier test (p ∷ []) = elim (cases_Bool (nat_eq p.0 carrier)) [ inl t ↦ rw t refl | inr f ↦ rw f refl ]
owner_ends carrier test (p ∷ q ∷ ps) = owner_ends carrier test (q ∷ ps)

-- the last pair names it, or another carrier
pub named_last : (me : ℕ) (trail : List (ℕ × ℕ)) (pair : ℕ × ℕ) → Some pair ≡ slice_get trail (length trail - 1) → nat_eq pair.0 me ≡ true → Some pair.1 ≡ owner_in me trail
named_last me trail pair is same = sym (ap (option_and_then (member_named me)) (last_get None trail pair (sym is)) ∙ rw same refl)

pub other_last : (me : ℕ) (trail : List (ℕ × ℕ)) (pair : ℕ × ℕ) → Some pair ≡ slice_get trail (length trail - 1) → nat_eq pair.0 me ≡ false → None ≡ owner_in me trail
other_last me trail pair is other = sym (ap (option_and_then (member_named me)) (last_get None trail pair (sym is)) ∙ rw other refl)

module _ (me n k : ℕ) (indices : List (Option ℕ)) (held : List (Option Held)) (run : TrailRun) where
  abbrev pub put_at : ℕ → Option Held
  put_at i = if is_step k (slice_get indices i) then with_run me n i (get_or held i None) run else get_or held i None

  owner_is : (i : ℕ) (o : Option ℕ) → owner_in me run.trail ≡ o → is_owner me i run ≡ option_map_or (nat_eq i) o false
  owner_is i o is = owner_ends me (nat_eq i) run.trail ∙ ap (λ (o : Option ℕ). option_map_or (nat_eq i) o false) is

  passed_by : (i : ℕ) → is_owner me i run ≡ false → get_or held i None ≡ put_at i
  passed_by i other = same (is_step k (slice_get indices i))
    where
      same : (b : Bool) → get_or held i None ≡ (if b then with_run me n i (get_or held i None) run else get_or held i None)
      same false = refl
      same true = rw other refl

  pub run_passed : owner_in me run.trail ≡ None → (i : ℕ) → get_or held i None ≡ put_at i
  run_passed none i = passed_by i (owner_is i None none)

  pub run_stays : (m : ℕ) → owner_in me run.trail ≡ Some m → is_step k (slice_get indices m) ≡ false → (i : ℕ) → get_or held i None ≡ put_at i
  run_stays m owner stays i = elim (cases_eq i m) [
    | inl e ↦ (let f : is_step k (slice_get indices i) ≡ false = ap (λ (j : ℕ). is_step k (slice_get indices j)) e ∙ stays in rw f refl)
    | inr ne ↦ passed_by i (owner_is i (Some m) owner ∙ ne_eqb i m ne)
  ]

  pub run_taken : (m : ℕ) (v : Option Held) → owner_in me run.trail ≡ Some m → is_step k (slice_get indices m) ≡ true → m < length held → v ≡ joined (get_or held m None) (run_range n run) → (i : ℕ) → get_or (set held m v) i None ≡ put_at i
  run_taken m v owner taken below is i = elim (cases_eq i m) [
    | inl e ↦ subst (λ (j : ℕ). get_or (set held m v) j None ≡ put_at j) (sym e)
        (get_or-set_same held m v None below ∙ (is ∙ (let own : is_owner me m run ≡ true = owner_is m (Some m) owner ∙ eq-eqb m m refl in rw (taken, own) refl)))
    | inr ne ↦ get_or-set_other held m i v None ne ∙ passed_by i (owner_is i (Some m) owner ∙ ne_eqb i m ne)
  ]

-- one run more of a step
pub runs_more : (b : Bool) (me n i : ℕ) (h h' f : Option Held) (run : TrailRun) (runs rest all : List TrailRun) → runs ≡ run ∷ rest → h' ≡ (if b then with_run me n i h run else h)
    → (if b then with_runs me n i h runs else h) ≡ (if b then with_runs me n i f all else f) → (if b then with_runs me n i h' rest else h') ≡ (if b then with_runs me n i f all else f)
runs_more true me n i h h' f run runs rest all e is inv = ap (λ (x : Option Held). with_runs me n i x rest) is ∙ (ap (λ (xs : List TrailRun). with_runs me n i h xs) (sym e) ∙ inv)
runs_more false me n i h h' f run runs rest all e is inv = is ∙ inv

-- all steps
pub held_all : (me : ℕ) (members : List Member) (steps : List SourceStep) (indices : List (Option ℕ)) (held : List (Option Held)) → indices ≡ map (step_index steps) members → length held ≡ length members
    → ((i : ℕ) → get_or held i None ≡ with_steps me 0 (slice_get indices i) i (get_or (map (kept_of (steps_seen steps)) members) i None) steps)
    → ((t : ℕ) (s : SourceStep) → t < length steps → slice_get steps t ≡ Some s → IsSound s) → AreHeld me (steps_seen steps) members held
held_all me members steps indices held first size all sound = record {
  long = size;
  each = λ i source bounds mode s get is.
      let st : StepOf me 0 source i (kept_range s.step bounds) steps s = steps_one me 0 source i (kept_range s.step bounds) steps s is in
      let at : slice_get indices i ≡ Some (index_from 0 source steps) = ap (λ xs. slice_get xs i) first ∙ (slice_get-map (step_index steps) members i ∙ ap (option_map (step_index steps)) get) in
      let kept : get_or (map (kept_of (steps_seen steps)) members) i None ≡ kept_range s.step bounds =
      read_at (map (kept_of (steps_seen steps)) members) i (kept_of (steps_seen steps) (Member.Tracked source bounds mode)) None (slice_get-map (kept_of (steps_seen steps)) members i ∙ ap (option_map (kept_of (steps_seen steps))) get)
      ∙ ap (λ (o : Option layers.SourceStep). option_and_then (λ (s : layers.SourceStep). kept_range s.step bounds) o) is in
      let here : get_or held i None ≡ with_steps me 0 (Some (index_from 0 source steps)) i (kept_range s.step bounds) steps =
      all i ∙ (ap (λ (o : Option (Option ℕ)). with_steps me 0 o i (get_or (map (kept_of (steps_seen steps)) members) i None) steps) at
      ∙ ap (λ (h : Option Held). with_steps me 0 (Some (index_from 0 source steps)) i h steps) kept) in
      let span : kept_range s.step bounds ≡ kept_range (step st.given.changes) bounds = ap (λ (s : layers.SourceStep). kept_range s.step bounds) st.seen in
      ap (option_map held_span) (here ∙ (st.runs ∙ ap (λ (h : Option Held). with_runs me (step st.given.changes).new_len i h st.given.trails) span))
      ∙ (held_is me i st.given bounds (sound st.at st.given st.below st.here) ∙ ap (λ (s : layers.SourceStep). held_range me s (record { index = i; bounds = bounds })) (sym st.seen));
}

-- no run is left
pub at_end : (b : Bool) (me n n' i : ℕ) (h f : Option Held) (runs all : List TrailRun) → runs ≡ [] → n ≡ n' → (if b then with_runs me n i h runs else h) ≡ (if b then with_runs me n i f all else f) → h ≡ (if b then with_runs me n' i f all else f)
at_end true me n n' i h f runs all e size inv = ap (λ (xs : List TrailRun). with_runs me n i h xs) (sym e) ∙ (inv ∙ ap (λ (m : ℕ). with_runs me m i f all) size)
at_end false me n n' i h f runs all e size inv = inv
