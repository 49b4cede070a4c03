-- The turns of a way, one after another.
use Rattle.std.proofs.Common.{◌≡◌, ℕ, zero, suc, ◌+◌, ◌<◌, ◌≤◌, true, List, [], ◌∷◌, ◌++◌, length, map, take, drop, Some, Ok, Err, refl, sym, ap, ◌∙◌, subst, arith}
use Rattle.std.specs.Prelude.{Result, slice_get, slice_index_or}
use Rattle.ed_project.specs.declared.ProjectionFault.{ProjectionFault}
use Rattle.ed_stock.specs.Versions.{step_in}
use Rattle.ed_held.specs.declared.held.Held.{Held}
use Rattle.ed_held.specs.declared.moves.Move.{Move}
use Rattle.ed_climb.specs.Climbing.{CanRise, HasTurned, goes}
use Rattle.ed_held.specs.Moves.{move_seen}
use Rattle.ed_climb.specs.Route.{Climbs, HasClimbed, IsRoute, Route}
use Rattle.ed_risen.proofs.Lists.{got}
use Rattle.ed_climb.proofs.Climb.{reached, there_held}
use Rattle.ed_climb.proofs.Turned.{can_go, turn_failed, turned_on}

split_by : (xs : List ℕ) (i b : ℕ) → i < length xs → b ≡ slice_index_or xs i b → (xs ≡ take i xs ++ b ∷ drop (suc i) xs) × (take (suc i) xs ≡ take i xs ++ b ∷ [])
split_by [] i b h e = absurd (omega arith)
split_by (x ∷ xs) zero b h e = let f : x ≡ b = sym e in (ap (λ y. y ∷ xs) f, ap (λ y. y ∷ []) f)
split_by (x ∷ xs) (suc i) b h e = let p : (xs ≡ take i xs ++ b ∷ drop (suc i) xs) × (take (suc i) xs ≡ take i xs ++ b ∷ []) = split_by xs i b (omega arith) e in (ap (λ ys. x ∷ ys) p.0, ap (λ ys. x ∷ ys) p.1)

split_at : (xs : List ℕ) (i b : ℕ) → i < length xs → b ≡ slice_index_or xs i b → (xs ≡ take i xs ++ b ∷ drop (i + 1) xs) × (take (i + 1) xs ≡ take i xs ++ b ∷ [])
split_at xs i b h e = let p : (xs ≡ take i xs ++ b ∷ drop (suc i) xs) × (take (suc i) xs ≡ take i xs ++ b ∷ []) = split_by xs i b h e in
    let n : suc i ≡ i + 1 = omega arith in
    (p.0 ∙ ap (λ k. take i xs ++ b ∷ drop k xs) n, ap (λ k. take k xs) (sym n) ∙ p.1)

take_all : (xs : List ℕ) (i : ℕ) → length xs ≤ i → take i xs ≡ xs
take_all [] zero h = refl
take_all [] (suc i) h = refl
take_all (x ∷ xs) zero h = absurd (omega arith)
take_all (x ∷ xs) (suc i) h = ap (λ ys. x ∷ ys) (take_all xs i (omega arith))

module _ (w : Route) (order : List ℕ) (route : IsRoute w order) (i : ℕ) (hs : List Held) (ms : List Move) (so_far : (done : List ℕ) × Climbs w (take i order) done hs ms) where
  module _ (b : ℕ) (below : i < length order) (is : b ≡ slice_index_or order i b) where
    split : order ≡ take i order ++ b ∷ drop (i + 1) order
    split = (split_at order i b below is).0

    pub turn_there : b < length hs
    turn_there = there_held w order route (take i order) so_far.0 hs ms so_far.1 b (reached w order route (take i order) so_far.0 hs ms so_far.1 (drop (i + 1) order) b split).there

    pub turn_can : (h : Held) → slice_get hs b ≡ Some h → goes ms b h ≡ true → CanRise hs ms (step_in (map move_seen ms)) h
    turn_can h held does = can_go w order route (take i order) (drop (i + 1) order) b split so_far.0 hs hs ms ms so_far.1 h held does

    module _ (hs' : List Held) (ms' : List Move) where
      turned_held : (result : Result (Unit {0}) ProjectionFault) → ((h : Held) → slice_get hs b ≡ Some h → HasTurned hs hs' ms ms' b h result) → (h : Held) × (slice_get hs b ≡ Some h) × HasTurned hs hs' ms ms' b h result
      turned_held result turned = let h : (h : Held) × (slice_get hs b ≡ Some h) = got hs b turn_there in (h.0, h.1, turned h.0 h.1)

      pub turn_on : (x : Unit {0}) → ((h : Held) → slice_get hs b ≡ Some h → HasTurned hs hs' ms ms' b h (Ok x)) → (done' : List ℕ) × Climbs w (take (i + 1) order) done' hs' ms'
      turn_on x turned =
          let h : (h : Held) × (slice_get hs b ≡ Some h) × HasTurned hs hs' ms ms' b h (Ok x) = turned_held (Ok x) turned in
          let on : (done' : List ℕ) × Climbs w (take i order ++ b ∷ []) done' hs' ms' = turned_on w order route (take i order) (drop (i + 1) order) b split so_far.0 hs hs' ms ms' so_far.1 h.0 h.1 x h.2 in
          (on.0, subst (λ ys. Climbs w ys on.0 hs' ms') (sym (split_at order i b below is).1) on.1)

      pub turn_stopped : (e : ProjectionFault) → ((h : Held) → slice_get hs b ≡ Some h → HasTurned hs hs' ms ms' b h (Err e)) → HasClimbed w order hs' ms' (Err e)
      turn_stopped e turned =
          let h : (h : Held) × (slice_get hs b ≡ Some h) × HasTurned hs hs' ms ms' b h (Err e) = turned_held (Err e) turned in
          turn_failed w order route (take i order) (drop (i + 1) order) b split so_far.0 hs hs' ms ms' so_far.1 h.0 h.1 e h.2

  pub turn_ended : length order ≤ i → (done' : List ℕ) × Climbs w order done' hs ms
  turn_ended past = (so_far.0, subst (λ ys. Climbs w ys so_far.0 hs ms) (take_all order i past) so_far.1)
