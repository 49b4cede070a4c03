use Rattle.std.proofs.Common.{◌≡◌, ◌+◌, drop, length, sum_by}
use Rattle.ed_climb.proofs.adding_up.inserted.Given as goal

abbrev pub invariant-loop-change : goal.invariant-loop-change
invariant-loop-change l = l.total + sum_by (λ x. length x.text) (drop l.change-index l.list) ≡ sum_by (λ x. length x.text) l.list
