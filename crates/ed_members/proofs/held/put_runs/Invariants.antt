use Rattle.std.proofs.Common.{◌≡◌, ℕ, None, length, drop, slice_get, slice_index_or, if◌then◌else◌}
use Rattle.ed_members.specs.Advance.{is_step, with_runs}
use Rattle.ed_members.proofs.held.put_runs.Given as goal

abbrev pub invariant-loop-run : goal.invariant-loop-run
invariant-loop-run l = record {
  long : length l.held.items ≡ length l.fn.held.items;
  each : (i : ℕ) → (if is_step l.index (slice_get l.indices i) then with_runs l.me l.len i (slice_index_or l.held.items i None) (drop l.run-index l.step.trails) else slice_index_or l.held.items i None) ≡ (if is_step l.index (slice_get l.indices i) then with_runs l.me l.len i (slice_index_or l.fn.held.items i None) l.step.trails else slice_index_or l.fn.held.items i None);
}
