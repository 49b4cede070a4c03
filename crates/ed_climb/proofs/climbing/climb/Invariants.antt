use Rattle.std.proofs.Common.{◌≡◌, ℕ, List, [], map, take}
use Rattle.ed_members.specs.Steps.{step_seen}
use Rattle.ed_held.specs.Moves.{move_seen}
use Rattle.ed_climb.specs.Route.{Climbs, IsRoute, Route}
use Rattle.ed_held.specs.Seen.{known}
use Rattle.ed_climb.proofs.climbing.climb.Given as goal

abbrev pub invariant-loop-buffer : goal.invariant-loop-buffer
invariant-loop-buffer l = record {
  seen : map (λ s. (s.source, step_seen s)) l.steps.items ≡ map move_seen l.moves.items;
  same : map known l.buffers ≡ map known l.fn.buffers;
  climbs : (w : Route) (done : List ℕ) → IsRoute w l.order → Climbs w [] done l.fn.buffers l.fn.moves.items → (done' : List ℕ) × Climbs w (take l.buffer-index l.order) done' l.buffers l.moves.items;
}
