use Rattle.std.proofs.Common.{◌≡◌, ℕ, ◌<◌, None, Some, length, map, drop, slice_get, slice_index_or}
use Rattle.ed_members.specs.Advance.{IsSound, kept_of, with_steps}
use Rattle.ed_members.specs.declared.steps.SourceStep.{SourceStep}
use Rattle.ed_members.specs.Steps.{steps_seen}
use Rattle.ed_members.proofs.held.held_by.Given as goal

abbrev pub invariant-loop-index : goal.invariant-loop-index
invariant-loop-index l = record {
  long : length l.held.items ≡ length l.members;
  each : (i : ℕ) → with_steps l.me l.index (slice_get l.indices i) i (slice_index_or l.held.items i None) (drop l.index l.steps) ≡ with_steps l.me 0 (slice_get l.indices i) i (slice_index_or (map (kept_of (steps_seen l.steps)) l.members) i None) l.steps;
  sound : (t : ℕ) (s : SourceStep) → t < l.index → slice_get l.steps t ≡ Some s → IsSound s;
}
