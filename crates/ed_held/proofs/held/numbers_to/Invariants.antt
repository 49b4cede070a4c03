use Rattle.std.proofs.Common.{◌≡◌, ◌+◌, ◌≤◌}
use Rattle.ed_base.specs.Numbers.{places}
use Rattle.ed_held.proofs.held.numbers_to.Given as goal

abbrev pub invariant-loop-number : goal.invariant-loop-number
invariant-loop-number l = record {
  items : l.numbers.items ≡ places l.number;
  within : l.number ≤ l.last + 1;
}
