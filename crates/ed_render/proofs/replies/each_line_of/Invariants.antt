use Rattle.std.proofs.Common.{◌≡◌, ◌++◌, drop}
use Rattle.ed_render.specs.Replies.{each_line}
use Rattle.ed_render.proofs.replies.each_line_of.Given as goal

abbrev pub invariant-loop-item : goal.invariant-loop-item
invariant-loop-item l = l.line.items ++ each_line (drop l.item-index l.lines) ≡ l.fn.line.items ++ each_line l.lines
