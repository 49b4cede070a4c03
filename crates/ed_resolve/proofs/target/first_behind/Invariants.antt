use Rattle.std.proofs.Common.{◌-◌, ◌≤◌, ◌<◌, ℕ, length}
use Rattle.ed_layers.specs.Records.{placement}
use Rattle.ed_resolve.proofs.target.first_behind.Given as goal

abbrev pub invariant-loop-low : goal.invariant-loop-low
invariant-loop-low l = (l.low ≤ l.high) × (l.high ≤ length l.members) × ((i : ℕ) → l.high ≤ i → i < length l.members → l.at < (placement l.members i).start)

abbrev pub decreases-loop-low : goal.decreases-loop-low
decreases-loop-low l = l.high - l.low
