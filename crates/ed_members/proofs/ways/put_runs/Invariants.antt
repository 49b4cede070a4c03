use Rattle.std.proofs.Common.{◌≡◌, ◌++◌, drop}
use Rattle.std.specs.Prelude.{flat_map}
use Rattle.ed_members.specs.Ways.{run_above}
use Rattle.ed_members.proofs.ways.put_runs.Given as goal

abbrev pub invariant-loop-at : goal.invariant-loop-at
invariant-loop-at l = l.list.items ++ flat_map (run_above l.fn.me l.of_elision l.member l.place l.bounds) (drop l.at l.runs) ≡ l.fn.list.items ++ flat_map (run_above l.fn.me l.of_elision l.member l.place l.bounds) l.runs
