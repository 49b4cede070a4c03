use Rattle.std.proofs.Common.{flat_map, drop}
use Rattle.ed_base.specs.ChangeList.{applied}
use Rattle.ed_text.specs.Balance.{IsBalanced}
use Rattle.ed_text.proofs.ReplacedSoFar.{ReplacedUpTo}
use Rattle.ed_text.proofs.tree.replace_with.Given as goal

abbrev pub invariant-loop-change : goal.invariant-loop-change
invariant-loop-change g l = (IsBalanced (λ n. n) 65536 l.row.items) × ReplacedUpTo l.text (applied l.changes l.text) l.at l.to (flat_map (λ n. n) l.row.items) (drop l.change-index l.change-items)
