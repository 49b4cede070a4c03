use Rattle.std.proofs.Common.{◌≡◌}
use Rattle.ed_base.specs.Numbers.{places}
use Rattle.ed_members.proofs.sorted.counted.Given as goal

abbrev pub invariant-loop-index : goal.invariant-loop-index
invariant-loop-index l = l.numbers.items ≡ places l.index
