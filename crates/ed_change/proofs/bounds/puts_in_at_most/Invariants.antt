use Rattle.std.proofs.Common.{◌≡◌, ◌+◌, take}
use Rattle.ed_base.specs.Edit.{units_put_in}
use Rattle.ed_change.proofs.bounds.puts_in_at_most.Given as goal

abbrev pub invariant-loop-replace : goal.invariant-loop-replace
invariant-loop-replace l = units_put_in (take l.replace-index l.replaces) + l.left ≡ l.fn.units
