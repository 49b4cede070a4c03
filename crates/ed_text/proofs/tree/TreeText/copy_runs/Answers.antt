use Rattle.std.proofs.Common.{◌+◌, length, take, arith, ap, ◌∙◌}
use Rattle.ed_text.proofs.Runs.{copied_run, front_stays}
use Rattle.ed_text.proofs.tree.TreeText.copy_runs.Goals as goal

pub loop-at-preserved : goal.loop-at-preserved
loop-at-preserved c =
    let run = c.run-run in
    let us = c.args.self.now in
    let end = c.args.span.start + c.args.span.len in
    record {
      within = omega arith;
      units = copied_run c.args.into.now c.loop-at.into c.extend.new.self run.result.now us c.args.span.start c.loop-at.at end (omega arith) run.ensures.units c.in_ok-extend.ensures.ok c.loop-at.invariant.units;
      front = ap (take (length c.args.into.now)) c.in_ok-extend.ensures.ok ∙ front_stays c.args.into.now c.loop-at.into run.result.now c.loop-at.invariant.front;
    }
