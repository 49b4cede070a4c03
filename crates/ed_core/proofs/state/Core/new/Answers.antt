use Rattle.std.proofs.Common.{length, ap, sym, ◌∙◌}
use Rattle.ed_stock.specs.Stock.{count}
use Rattle.ed_core.proofs.Few.{within-empty}
use Rattle.ed_core.proofs.state.Core.new.Goals as goal

pub invariant_of-result : goal.invariant_of-result
invariant_of-result c = (ap length c.new.ensures.empty ∙ ap count (sym c.new-2.ensures), within-empty _ c.new.result.keys c.new-2.ensures)
