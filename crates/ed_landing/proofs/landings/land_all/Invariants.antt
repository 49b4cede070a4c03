use Rattle.std.proofs.Common.{◌≡◌, ◌≤◌, ℕ, List, length, map}
use Rattle.ed_base.specs.declared.Piece.{Piece}
use Rattle.ed_callbacks.specs.HookLists.{hook_table}
use Rattle.ed_members.specs.Steps.{step_seen}
use Rattle.ed_held.specs.Moves.{move_seen}
use Rattle.ed_held.specs.Seen.{known, stock}
use Rattle.ed_landing.specs.Landings.{HaveArrived, SoFar, StandOn}
use Rattle.ed_descent.specs.InBoxes.{boxes_of}
use Rattle.ed_landing.proofs.landings.land_all.Given as goal

abbrev pub invariant-loop-index : goal.invariant-loop-index
invariant-loop-index g l = record {
  same : map known l.buffers ≡ map known l.fn.buffers;
  below : l.index ≤ length l.fn.boxes;
  seen : map (λ s. (s.source, step_seen s)) l.steps.items ≡ map move_seen l.moves.items;
  going : (graph : List (List ℕ)) (pending : List (ℕ × Piece)) → StandOn l.fn.buffers graph → HaveArrived (stock l.fn.buffers) pending (boxes_of l.fn.boxes) → SoFar (hook_table l.fn.hooks) l.fn.buffers graph pending l.index l.buffers l.moves.items l.long;
}
