use Rattle.std.proofs.Common.{◌≡◌, ◌++◌, drop}
use Rattle.ed_pieces.specs.Runs.{runs_cut}
use Rattle.ed_pieces.proofs.run.cut_runs.Given as goal

abbrev pub invariant-loop-run : goal.invariant-loop-run
invariant-loop-run l = l.share.items ++ runs_cut l.start l.end (drop l.run-index l.runs) ≡ runs_cut l.from l.to l.runs
