use Rattle.std.proofs.Common.{◌≡◌, ◌≤◌, [], ◌++◌, drop, map}
use Rattle.ed_pieces.specs.Runs.{AreRuns, text_of}
use Rattle.ed_pieces.specs.Arrivals.{sweep}
use Rattle.ed_pieces.proofs.pending.swept.Given as goal

abbrev pub invariant-loop-piece : goal.invariant-loop-piece
invariant-loop-piece l = (l.pending.start ≤ l.pending.end) × AreRuns l.pending.runs.items × (l.list.items ++ sweep l.pending.start l.pending.end (text_of l.pending.runs.items) (map (λ p. p.now) (drop l.piece-index l.order)) ≡ sweep 0 0 [] (map (λ p. p.now) l.order))
