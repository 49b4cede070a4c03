use Rattle.std.proofs.Common.{ℕ, ◌+◌, ◌-◌, ◌/◌, ◌≤◌, length, arith}
use Rattle.ed_project.proofs.SourceRuns.{none_before}
use Rattle.ed_project.proofs.sources.runs_before.Goals as goal

pub loop-low-preserved-then-run-shift : goal.loop-low-preserved-then-run-shift
loop-low-preserved-then-run-shift c = record {
  order = omega arith;
  within = c.loop-low.invariant.within;
  none =
      let middle : ℕ = c.loop-low.low + (c.loop-low.high - c.loop-low.low) / 2 in
      let there : middle ≤ length c.args.changes.now.changes = omega (arith, c.loop-low.invariant.within) in
      none_before c.args.shift.now c.args.changes.now middle c.run_at-run.result c.run_at-run.ensures.normal there c.run_at-run.ensures.run c.if-run-shift.true;
}
