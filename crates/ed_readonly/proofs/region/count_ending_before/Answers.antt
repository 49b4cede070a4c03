-- One half is left.
use Rattle.std.proofs.Common.{ℕ, ◌+◌, ◌-◌, ◌/◌, ◌≤◌, slice_index, arith}
use Rattle.ed_readonly.specs.Denied.{ends}
use Rattle.ed_readonly.proofs.Bisected.{ends_rise}
use Rattle.ed_readonly.proofs.region.count_ending_before.Goals as goal

pub loop-low-preserved-then-end_at-from : goal.loop-low-preserved-then-end_at-from
loop-low-preserved-then-end_at-from c = record {
  order = omega arith;
  within = c.loop-low.invariant.within;
  before = λ k below.
      let middle : ℕ = c.loop-low.low + (c.loop-low.high - c.loop-low.low) / 2 in
      let rise : slice_index (ends c.args.changes.now) k ≤ slice_index (ends c.args.changes.now) middle = ends_rise 0 c.requires.normal.0 c.args.changes.now k middle c.requires.normal.1 (omega arith) (omega (arith, c.loop-low.invariant.within)) in
      omega (arith, rise, c.end_at.ensures, c.from.ensures, c.if-end_at-from.true);
  next = c.loop-low.invariant.next;
}

pub loop-low-preserved : goal.loop-low-preserved
loop-low-preserved c = record {
  order = omega arith;
  within = omega (arith, c.loop-low.invariant.within);
  before = c.loop-low.invariant.before;
  next = λ below. omega (arith, c.end_at.ensures, c.from.ensures, c.if-end_at-from.false);
}
