-- Moves, as the definitions see them.
use Rattle.std.proofs.Common.{◌≡◌, ℕ, Bool, true, false, List, [], ◌∷◌, map, Option, Some, None, refl, ap, ◌∙◌}
use Rattle.std.specs.Prelude.{nat_eq, is_some, option_map, if◌then◌else◌}
use Rattle.std.specs.List.{list_any, AllByRecursion as Each}
use Rattle.ed_stock.specs.Versions.{step_in, with_version}
use Rattle.ed_stock.specs.Stock.{Stock, now}
use Rattle.ed_held.specs.declared.moves.Move.{Move}
use Rattle.ed_held.specs.Moves.{move_of, move_seen, step_of, with_move}
use Rattle.ed_members.specs.declared.SourceStep.{SourceStep as SourceSteps}
use Rattle.ed_members.specs.Steps.{step_seen, steps_seen}
use Rattle.ed_climb.specs.Route.{IsNewest}
use Rattle.ed_climb.specs.Counted.{told}

-- the step of a buffer is that of its move
pub step_of_move : (ms : List Move) (b : ℕ) → step_in (map move_seen ms) b ≡ option_map (λ m. step_of m) (move_of ms b)
step_of_move [] b = refl
step_of_move (m ∷ ms) b = by (nat_eq m.buffer b) refl (step_of_move ms b)
  where
    by : (t : Bool) → nat_eq m.buffer b ≡ t → step_in (map move_seen ms) b ≡ option_map (λ x. step_of x) (move_of ms b)
        → step_in (map move_seen (m ∷ ms)) b ≡ option_map (λ x. step_of x) (move_of (m ∷ ms) b)
    by true t rest = rw t refl
    by false t rest = rw t rest

is_some_same : (ms : List Move) (b : ℕ) → is_some (step_in (map move_seen ms) b) ≡ is_some (move_of ms b)
is_some_same ms b = ap is_some (step_of_move ms b) ∙ by (move_of ms b)
  where
    by : (o : Option Move) → is_some (option_map (λ m. step_of m) o) ≡ is_some o
    by None = refl
    by (Some m) = refl

-- whether one has moved, asked of the moves
pub any_moved : (ms : List Move) (vs : List (ℕ × ℕ)) → list_any (λ source. is_some (step_in (map move_seen ms) source)) (map (λ v. v.0) vs) ≡ list_any (λ v. is_some (move_of ms v.0)) vs
any_moved ms [] = refl
any_moved ms (v ∷ vs) = rw (is_some_same ms v.0, any_moved ms vs) refl

-- the steps that are shown, as the definitions see them
pub seen_steps : (ss : List SourceSteps) → steps_seen ss ≡ step_in (map (λ x. (x.source, step_seen x)) ss)
seen_steps ss = λ i b. by ss b i
  where
    by : (xs : List SourceSteps) (b : ℕ) → steps_seen xs b ≡ step_in (map (λ x. (x.source, step_seen x)) xs) b
    by [] b = refl
    by (x ∷ xs) b = ap (λ o. if nat_eq x.source b then Some (step_seen x) else o) (by xs b)

pub most_moved : (s : Stock) (m : Move) → (with_move s m).most_buffers ≡ s.most_buffers
unfolding with_version
most_moved s m = refl

-- versions as they are told are those that were made
pub told_made : (t : Stock) (ms : List Move) → Each (IsNewest t) ms → map told ms ≡ map (λ m. (m.0, now t m.0)) (map move_seen ms)
told_made t [] h = refl
told_made t (m ∷ ms) h = ap (λ v. (m.buffer, v) ∷ map told ms) (ap (λ y. y.version) h.0) ∙ ap (λ vs. (m.buffer, now t m.buffer) ∷ vs) (told_made t ms h.1)
