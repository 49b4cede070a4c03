use Rattle.ed_group.proofs.Empty.{kept_empty}
use Rattle.ed_group.proofs.stock.Stock.new.Goals as goal

pub invariant_of-result : goal.invariant_of-result
invariant_of-result c =
    rw (c.new.ensures.items, c.new-2.ensures) kept_empty
