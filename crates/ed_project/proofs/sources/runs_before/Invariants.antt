use Rattle.std.proofs.Common.{◌≡◌, ◌-◌, ◌≤◌, [], length, take}
use Rattle.ed_kept.specs.Kept.{pairs_of, runs_of}
use Rattle.ed_project.specs.Kept.{shown_pairs}
use Rattle.ed_project.proofs.sources.runs_before.Given as goal

abbrev pub invariant-loop-low : goal.invariant-loop-low
invariant-loop-low l = record {
  order : l.low ≤ l.high;
  within : l.high ≤ length l.changes.changes;
  none : shown_pairs l.shift (pairs_of (take l.low (runs_of l.changes))) ≡ [];
}

abbrev pub decreases-loop-low : goal.decreases-loop-low
decreases-loop-low l = l.high - l.low
