use Rattle.std.proofs.Common.{◌<◌, subst, sym}
use Rattle.ed_stock.specs.Stock.{count}
use Rattle.ed_machine.specs.State.{State}
use Rattle.ed_core.proofs.Places.{few-len}
use Rattle.ed_core.proofs.state.Core.len_now.Goals as goal

pub returns-clause-few : goal.returns-clause-few
returns-clause-few c = few-len _ c.args.buffer c.now.result c.text_len.result c.self.invariant.1.stock (subst (λ (u : State). c.args.buffer < count u.stock) (sym c.self.view_is) c.requires) c.now.ensures.version c.text_len.ensures
