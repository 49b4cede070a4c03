use Rattle.std.proofs.Common.{◌≡◌, ◌++◌, drop}
use Rattle.ed_elide.specs.AfterStep.{own_spans}
use Rattle.ed_elide.proofs.after.own_spans.Given as goal

abbrev pub invariant-loop-run : goal.invariant-loop-run
invariant-loop-run l = l.list.items ++ own_spans l.me l.len (drop l.run-index l.runs) ≡ own_spans l.me l.len l.runs
