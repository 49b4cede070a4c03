use Rattle.std.proofs.Common.{◌≡◌, ◌++◌, drop}
use Rattle.ed_render.specs.Replies.{each_change}
use Rattle.ed_render.proofs.replies.each_change_of.Given as goal

abbrev pub invariant-loop-item : goal.invariant-loop-item
invariant-loop-item l = l.line.items ++ each_change (drop l.item-index l.changes) ≡ l.fn.line.items ++ each_change l.changes
