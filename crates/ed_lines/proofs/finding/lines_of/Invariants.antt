-- The lines before the place, and the breaks from it on, make all lines.
use Rattle.std.proofs.Common.{◌-◌, length}
use Rattle.ed_lines.proofs.Ahead.{Found}
use Rattle.ed_lines.proofs.finding.lines_of.Given as goal

abbrev pub invariant-loop-at : goal.invariant-loop-at
invariant-loop-at g l = Found (g.T.Text.units l.text) l.lines.items l.start l.at

abbrev pub decreases-loop-at : goal.decreases-loop-at
decreases-loop-at g l = length (g.T.Text.units l.text) - l.at
