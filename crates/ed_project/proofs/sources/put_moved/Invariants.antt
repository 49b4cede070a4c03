use Rattle.std.proofs.Common.{◌≡◌, ◌++◌, take}
use Rattle.ed_kept.specs.Kept.{pairs_of, runs_of}
use Rattle.ed_project.specs.Kept.{shown_pairs}
use Rattle.ed_project.proofs.sources.put_moved.Given as goal

abbrev pub invariant-loop-i : goal.invariant-loop-i
invariant-loop-i l = pairs_of l.runs.items ≡ pairs_of l.fn.runs.items ++ shown_pairs l.shift (pairs_of (take l.i (runs_of l.changes)))
