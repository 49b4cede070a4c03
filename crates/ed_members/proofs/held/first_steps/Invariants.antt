use Rattle.std.proofs.Common.{◌≡◌, ℕ, drop}
use Rattle.std.specs.BTreeMap.{get}
use Rattle.std.specs.Ordering.{nat_cmp}
use Rattle.ed_base.specs.Numbers.{or_else}
use Rattle.ed_members.specs.Advance.{index_from}
use Rattle.ed_members.proofs.held.first_steps.Given as goal

abbrev pub invariant-loop-index : goal.invariant-loop-index
invariant-loop-index l = (b : ℕ) → or_else (get nat_cmp l.first b) (index_from l.index b (drop l.index l.steps)) ≡ index_from 0 b l.steps
