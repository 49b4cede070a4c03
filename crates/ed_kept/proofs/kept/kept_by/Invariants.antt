use Rattle.std.proofs.Common.{drop}
use Rattle.ed_kept.proofs.RunLemmas.{Passed}
use Rattle.ed_kept.proofs.kept.kept_by.Given as goal

abbrev pub invariant-loop-change : goal.invariant-loop-change
invariant-loop-change l = Passed l.changes l.old l.new l.runs.items (drop l.change-index l.list)
