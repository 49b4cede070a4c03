use Rattle.std.proofs.Common.{ℕ, ◌-◌, ◌<◌, ◌≤◌, length, slice_index}
use Rattle.ed_readonly.specs.Denied.{ends}
use Rattle.ed_readonly.proofs.region.count_ending_before.Given as goal

abbrev pub invariant-loop-low : goal.invariant-loop-low
invariant-loop-low l = record {
  order : l.low ≤ l.high;
  within : l.high ≤ length l.changes;
  before : (k : ℕ) → k < l.low → slice_index (ends l.changes) k < l.place;
  next : l.high < length l.changes → l.place ≤ slice_index (ends l.changes) l.high;
}

abbrev pub decreases-loop-low : goal.decreases-loop-low
decreases-loop-low l = l.high - l.low
