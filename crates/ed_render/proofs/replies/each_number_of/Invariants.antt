use Rattle.std.proofs.Common.{◌≡◌, ◌++◌, drop}
use Rattle.ed_render.specs.Replies.{each_number}
use Rattle.ed_render.proofs.replies.each_number_of.Given as goal

abbrev pub invariant-loop-item : goal.invariant-loop-item
invariant-loop-item l = l.line.items ++ each_number (drop l.item-index l.numbers) ≡ l.fn.line.items ++ each_number l.numbers
