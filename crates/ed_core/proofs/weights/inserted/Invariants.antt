use Rattle.std.proofs.Common.{◌≡◌, ◌+◌, length, drop, sum_by}
use Rattle.ed_base.specs.ChangeList.{inserted_len}
use Rattle.ed_core.proofs.weights.inserted.Given as goal

abbrev pub invariant-loop-change : goal.invariant-loop-change
invariant-loop-change l = l.units + sum_by (λ x. length x.text) (drop l.change-index l.change-items) ≡ inserted_len l.changes
