-- What is printed and what is left make the whole.
use Rattle.std.proofs.Common.{◌≡◌, ◌-◌, ◌≤◌, ◌++◌, drop, length}
use Rattle.ed_units.specs.Quoted.{quoted_units}
use Rattle.ed_render.proofs.texts.each_piece.Given as goal

abbrev pub invariant-loop-at : goal.invariant-loop-at
invariant-loop-at g l = record {
  whole : l.line.items ++ quoted_units (drop l.at (g.T.Text.units l.text)) ≡ l.fn.line.items ++ quoted_units (g.T.Text.units l.text);
  within : l.at ≤ length (g.T.Text.units l.text);
}

abbrev pub decreases-loop-at : goal.decreases-loop-at
decreases-loop-at g l = length (g.T.Text.units l.text) - l.at
