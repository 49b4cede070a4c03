-- What is counted, what is left and what still comes.
use Rattle.std.proofs.Common.{◌≡◌, ◌+◌, ◌^◌, length, drop}
use Rattle.std.specs.Prelude.{sum_by}
use Rattle.tests_texts.proofs.trees.fit.Given as goal

abbrev pub invariant-loop-part : goal.invariant-loop-part
invariant-loop-part g l = sum_by (λ t. length (g.T.Text.units t)) l.parts + l.left ≡ 2 ^ 22 + sum_by (λ t. length (g.T.Text.units t)) (drop l.part-index l.parts)
