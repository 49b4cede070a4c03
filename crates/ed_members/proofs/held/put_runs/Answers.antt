-- One run more.
use Rattle.std.proofs.Common.{◌≡◌, ◌+◌, ◌≤◌, List, [], ◌∷◌, length, drop, get_or, None, ◌∙◌, subst}
use Rattle.std.specs.Prelude.{slice_get}
use Rattle.std.proofs.lemmas.List.{drop_all}
use Rattle.ed_base.proofs.NormalLists.{rest_at}
use Rattle.ed_base.specs.ChangeList.{step}
use Rattle.ed_members.specs.Advance.{is_step}
use Rattle.ed_pieces.specs.declared.trails.TrailRun.{TrailRun}
use Rattle.ed_members.proofs.Putting.{runs_more, at_end}
use Rattle.ed_members.proofs.held.put_runs.Goals as goal

pub loop-run-preserved : goal.loop-run-preserved
loop-run-preserved c = record {
  long = c.put_run.ensures.long ∙ c.loop-run.invariant.long;
  each = λ i. runs_more (is_step c.args.index (slice_get c.args.indices.now i)) c.args.me c.len_after-len.result i (get_or c.loop-run.held.items i None) (get_or c.put_run.new.held.items i None) (get_or c.args.held.now.items i None)
      c.run-item.result (drop c.loop-run.run-index c.args.step.now.trails) (drop (c.loop-run.run-index + 1) c.args.step.now.trails) c.args.step.now.trails
      (subst (λ (runs : List TrailRun). drop c.loop-run.run-index runs ≡ c.run-item.result ∷ drop (c.loop-run.run-index + 1) runs) c.as_slice-run-items.ensures.runs
      (rest_at c.as_slice-run-items.result.now c.loop-run.run-index c.run-item.result c.loop-run-test.true c.run-item.is))
      (c.put_run.ensures.each i) (c.loop-run.invariant.each i);
}

pub returns-clause-each : goal.returns-clause-each
returns-clause-each c = λ i.
    let none : drop c.loop-run.run-index c.args.step.now.trails ≡ [] = drop_all c.loop-run.run-index c.args.step.now.trails (subst (λ (runs : List TrailRun). length runs ≤ c.loop-run.run-index) c.as_slice-run-items.ensures.runs c.loop-run-test.false) in
    at_end (is_step c.args.index (slice_get c.args.indices.now i)) c.args.me c.len_after-len.result (step c.args.step.now.changes).new_len i (get_or c.loop-run.held.items i None) (get_or c.args.held.now.items i None)
    (drop c.loop-run.run-index c.args.step.now.trails) c.args.step.now.trails none c.len_after-len.ensures.len (c.loop-run.invariant.each i)

pub returns-clause-sound : goal.returns-clause-sound
returns-clause-sound c = record { rising = c.as_slice-run-items.ensures.rising; normal = c.len_after-len.ensures.normal.changes }
