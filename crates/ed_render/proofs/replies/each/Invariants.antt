use Rattle.std.proofs.Common.{◌≡◌, ◌++◌, drop}
use Rattle.ed_render.specs.Replies.{each_version}
use Rattle.ed_render.proofs.replies.each.Given as goal

abbrev pub invariant-loop-pair : goal.invariant-loop-pair
invariant-loop-pair l = l.line.items ++ each_version (drop l.pair-index l.versions) ≡ l.fn.line.items ++ each_version l.versions
