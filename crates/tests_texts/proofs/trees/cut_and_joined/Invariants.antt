use Rattle.std.proofs.Common.{◌≤◌}
use Rattle.tests_texts.proofs.trees.cut_and_joined.Given as goal

abbrev pub invariant-loop : goal.invariant-loop
invariant-loop g l = l.at ≤ l.len
