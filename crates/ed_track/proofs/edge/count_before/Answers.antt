use Rattle.std.proofs.Common.{ℕ, ◌+◌, ◌-◌, ◌/◌, ◌≤◌, slice_index, arith}
use Rattle.ed_track.specs.Ways.{starts}
use Rattle.ed_track.proofs.Places.{starts_rise}
use Rattle.ed_track.proofs.edge.count_before.Goals as goal

pub loop-low-preserved-then-from-limit : goal.loop-low-preserved-then-from-limit
loop-low-preserved-then-from-limit c = record {
  order = omega arith;
  within = c.loop-low.invariant.within;
  before = λ k below.
      let middle : ℕ = c.loop-low.low + (c.loop-low.high - c.loop-low.low) / 2 in
      let rise : slice_index (starts c.args.way c.args.changes.now) k ≤ slice_index (starts c.args.way c.args.changes.now) middle =
      starts_rise c.args.way c.args.changes.now k middle (omega arith) (omega (arith, c.loop-low.invariant.within)) c.as_slice.ensures.normal.changes in
      omega (arith, rise, c.start.ensures, c.from.ensures, c.if-from-limit.true);
  after = c.loop-low.invariant.after;
}

pub loop-low-preserved : goal.loop-low-preserved
loop-low-preserved c = record {
  order = omega arith;
  within = omega (arith, c.loop-low.invariant.within);
  before = c.loop-low.invariant.before;
  after = λ k above below.
      let middle : ℕ = c.loop-low.low + (c.loop-low.high - c.loop-low.low) / 2 in
      let rise : slice_index (starts c.args.way c.args.changes.now) middle ≤ slice_index (starts c.args.way c.args.changes.now) k =
      starts_rise c.args.way c.args.changes.now middle k above below c.as_slice.ensures.normal.changes in
      omega (arith, rise, c.start.ensures, c.from.ensures, c.if-from-limit.false);
}
