use Rattle.std.proofs.Common.{◌≡◌, ◌≤◌, [], ◌++◌, drop, map}
use Rattle.ed_change.specs.Sweep.{sweep}
use Rattle.ed_change.proofs.pending.swept.Given as goal

abbrev pub invariant-loop-replace : goal.invariant-loop-replace
invariant-loop-replace l = (l.pending.start ≤ l.pending.end) × (l.list.items ++ sweep l.pending.start l.pending.end l.pending.text (map (λ r. r.now) (drop l.replace-index l.order)) ≡ sweep 0 0 [] (map (λ r. r.now) l.order))
