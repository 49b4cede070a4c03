use Rattle.std.proofs.Common.{ℕ, ◌-◌, ◌<◌, ◌≤◌, length, slice_index}
use Rattle.ed_track.specs.Ways.{starts}
use Rattle.ed_track.proofs.edge.count_before.Given as goal

abbrev pub invariant-loop-low : goal.invariant-loop-low
invariant-loop-low l = record {
  order : l.low ≤ l.high;
  within : l.high ≤ length l.changes.changes;
  before : (k : ℕ) → k < l.low → slice_index (starts l.way l.changes) k < l.limit;
  after : (k : ℕ) → l.high ≤ k → k < length l.changes.changes → l.limit ≤ slice_index (starts l.way l.changes) k;
}

abbrev pub decreases-loop-low : goal.decreases-loop-low
decreases-loop-low l = l.high - l.low
