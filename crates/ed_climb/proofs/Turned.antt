-- One turn of a way.
use Rattle.std.proofs.Common.{◌≡◌, ℕ, true, false, ◌⊎◌, inl, inr, List, [], ◌∷◌, ◌++◌, map, Option, Some, Ok, Err, refl, sym, ap, ◌∙◌, subst}
use Rattle.std.specs.Prelude.{Result, ◌<◌, ◌^◌, None, slice_get, if◌then◌else◌}
use Rattle.std.proofs.lemmas.Bool.{cases_Bool, cases_lt, lt-ltb, le-ltb}
use Rattle.ed_layers.specs.Records.{members_len, members_of}
use Rattle.ed_layers.specs.SourceStep.{SourceStep}
use Rattle.ed_members.specs.declared.SourceStep.{SourceStep as SourceSteps}
use Rattle.ed_members.specs.Steps.{step_seen, steps_seen}
use Rattle.ed_project.specs.Planning.{too_long}
use Rattle.ed_project.specs.declared.ProjectionFault.{ProjectionFault}
use Rattle.ed_stock.specs.Versions.{is_moved, step_in}
use Rattle.ed_held.specs.declared.held.Held.{Held}
use Rattle.ed_held.specs.declared.moves.Move.{Move}
use Rattle.ed_held.specs.declared.moves.Planned.{Planned}
use Rattle.ed_pieces.specs.declared.trails.TrailRun.{TrailRun}
use Rattle.ed_climb.specs.Climbing.{CanRise, HasRisen, HasRisenWith, HasTurned, Rested, TurnedBy, WentAlong, goes, move_to, record_after}
use Rattle.ed_climb.specs.Route.{Climbs, IsRoute, IsTooLong, Route}
use Rattle.ed_held.specs.Seen.{known, stock_of}
use Rattle.ed_climb.proofs.Climb.{can_rise, climbs_on, moves_here, passes}
use Rattle.ed_held.specs.Moves.{move_seen, rising_of}
use Rattle.ed_climb.proofs.Moved.{seen_steps}
use Rattle.ed_risen.proofs.Turns.{rests}

pub steps_are : (shown steps : List SourceSteps) (ms : List Move) → shown ≡ steps → map (λ x. (x.source, step_seen x)) steps ≡ map move_seen ms → steps_seen shown ≡ step_in (map move_seen ms)
steps_are shown steps ms same seen = ap steps_seen same ∙ seen_steps steps ∙ ap step_in seen

module _ (hs hs' : List Held) (ms ms' : List Move) (b : ℕ) (h : Held) where
  pub went : (result : Result (Unit {0}) ProjectionFault) → goes ms b h ≡ true → WentAlong hs hs' ms ms' b h result → HasTurned hs hs' ms ms' b h result
  went result does along = rw does along

  pub rested : (result : Result (Unit {0}) ProjectionFault) → goes ms b h ≡ false → Rested hs hs' ms ms' result → HasTurned hs hs' ms ms' b h result
  rested result doesn't rests = rw doesn't rests

  pub along_of : (result : Result (Unit {0}) ProjectionFault) → goes ms b h ≡ true → HasTurned hs hs' ms ms' b h result → WentAlong hs hs' ms ms' b h result
  along_of result does turned = subst (λ t. TurnedBy t hs hs' ms ms' b h result) does turned

  pub rested_of : (result : Result (Unit {0}) ProjectionFault) → goes ms b h ≡ false → HasTurned hs hs' ms ms' b h result → Rested hs hs' ms ms' result
  rested_of result doesn't turned = subst (λ t. TurnedBy t hs hs' ms ms' b h result) doesn't turned

pub can_turn : (hs : List Held) (shown_moves ms : List Move) (steps : ℕ → Option SourceStep) (h : Held) → shown_moves ≡ ms → steps ≡ step_in (map move_seen ms) → CanRise hs ms (step_in (map move_seen ms)) h → CanRise hs shown_moves steps h
can_turn hs shown_moves ms steps h same is can = subst (λ xs. CanRise hs xs steps h) (sym same) (subst (λ f. CanRise hs ms f h) (sym is) can)

pub has_turned : (hs hs' : List Held) (shown_moves ms : List Move) (steps : ℕ → Option SourceStep) (b : ℕ) (h : Held) (result : Result (Planned × List TrailRun) ProjectionFault) → shown_moves ≡ ms → steps ≡ step_in (map move_seen ms) → HasRisenWith hs hs' shown_moves steps b h result → HasRisenWith hs hs' ms (step_in (map move_seen ms)) b h result
has_turned hs hs' shown_moves ms steps b h result same is risen = subst (λ f. HasRisenWith hs hs' ms f b h result) is (subst (λ xs. HasRisenWith hs hs' xs steps b h result) same risen)

-- ---- on the way

long_of : (n : ℕ) (e : ProjectionFault) → too_long n ≡ Some e → (e ≡ ProjectionFault.Units n) × (2 ^ 22 < n)
long_of n e h = elim (cases_lt (2 ^ 22) n) [
  | inl l ↦ (let f : too_long n ≡ Some (ProjectionFault.Units n) = ap (λ t. if t then Some (ProjectionFault.Units n) else None) (lt-ltb (2 ^ 22) n l) in (cc, l))
  | inr le ↦ absurd (let f : too_long n ≡ None = ap (λ t. if t then Some (ProjectionFault.Units n) else None) (le-ltb (2 ^ 22) n le) in cc)
]

module _ (w : Route) (order : List ℕ) (route : IsRoute w order) (passed rest : List ℕ) (b : ℕ) (split : order ≡ passed ++ b ∷ rest) (done : List ℕ) (hs hs' : List Held) (ms ms' : List Move) (climbs : Climbs w passed done hs ms)
    (h : Held) (held : slice_get hs b ≡ Some h) where
  pub can_go : goes ms b h ≡ true → CanRise hs ms (step_in (map move_seen ms)) h
  can_go does = can_rise w order route passed done hs ms climbs rest b split h held (sym (moves_here w order route passed done hs ms climbs rest b split h held) ∙ does)

  Passed : Type 0
  Passed = (done' : List ℕ) × Climbs w (passed ++ b ∷ []) done' hs' ms'

  rested_on : is_moved (rising_of (stock_of w.before) ms) b ≡ false → (hs' ≡ hs) × (ms' ≡ ms) → Passed
  unfolding Passed
  rested_on rests same =
      let p : (done' : List ℕ) × Climbs w (passed ++ b ∷ []) done' hs ms = passes w order route passed done hs ms climbs rest b split rests in
      (p.0, subst (λ xs. Climbs w (passed ++ b ∷ []) p.0 xs ms') (sym same.0) (subst (λ xs. Climbs w (passed ++ b ∷ []) p.0 hs xs) (sym same.1) p.1))

  went_on : is_moved (rising_of (stock_of w.before) ms) b ≡ true → (p : Planned) (ways : List TrailRun) → ms' ≡ ms ++ move_to b p ways ∷ [] → HasRisenWith hs hs' ms (step_in (map move_seen ms)) b h (Ok (p, ways)) → Passed
  unfolding Passed
  went_on moved p ways pushed risen =
      let on : Climbs w (passed ++ b ∷ []) (b ∷ done) hs' (ms ++ move_to b p ways ∷ []) = climbs_on w order route passed done hs ms climbs rest b split h held moved hs' p risen.0 risen.1 ways risen.2 in
      (b ∷ done, subst (λ xs. Climbs w (passed ++ b ∷ []) (b ∷ done) hs' xs) (sym pushed) on)

  stopped : is_moved (rising_of (stock_of w.before) ms) b ≡ true → (e : ProjectionFault) → HasRisen hs hs' ms (step_in (map move_seen ms)) b h (Err e) → (e ≡ ProjectionFault.OutOfMemory) ⊎ ((len : ℕ) × (e ≡ ProjectionFault.Units len) × IsTooLong w order len)
  stopped moved e (inl oom) = inl oom
  stopped moved e (inr long) =
      let n : ℕ = members_len (members_of (record_after hs ms (step_in (map move_seen ms)) (known h))) in
      let f : (e ≡ ProjectionFault.Units n) × (2 ^ 22 < n) = long_of n e long.0 in
      inr (n, f.0, record { passed = passed; rest = rest; b = b; done = done; hs = hs; ms = ms; h = h; split = split; climbs = climbs; held = held; moved = moved; len_is = refl; long = f.1; ends = long.1 })

  moved_is : goes ms b h ≡ is_moved (rising_of (stock_of w.before) ms) b
  moved_is = moves_here w order route passed done hs ms climbs rest b split h held

  pub turned_on : (x : Unit {0}) → HasTurned hs hs' ms ms' b h (Ok x) → (done' : List ℕ) × Climbs w (passed ++ b ∷ []) done' hs' ms'
  unfolding Passed
  turned_on x turned = elim (cases_Bool (goes ms b h)) [
    | inl does ↦ (let a : WentAlong hs hs' ms ms' b h (Ok x) = along_of hs hs' ms ms' b h (Ok x) does turned in
        went_on (sym moved_is ∙ does) a.0 a.1 a.2 a.3)
    | inr doesn't ↦ rested_on (sym moved_is ∙ doesn't) (rested_of hs hs' ms ms' b h (Ok x) doesn't turned)
  ]

  pub turn_failed : (e : ProjectionFault) → HasTurned hs hs' ms ms' b h (Err e) → (e ≡ ProjectionFault.OutOfMemory) ⊎ ((len : ℕ) × (e ≡ ProjectionFault.Units len) × IsTooLong w order len)
  turn_failed e turned = elim (cases_Bool (goes ms b h)) [
    | inl does ↦ elim (along_of hs hs' ms ms' b h (Err e) does turned) [
      | inl oom ↦ inl oom
      | inr risen ↦ stopped (sym moved_is ∙ does) e risen
    ]
    | inr doesn't ↦ inl (rested_of hs hs' ms ms' b h (Err e) doesn't turned)
  ]
