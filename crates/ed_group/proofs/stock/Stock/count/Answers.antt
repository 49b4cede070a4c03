use Rattle.std.proofs.Common.{◌≡◌, subst, None, map}
use Rattle.ed_base.specs.Numbers.{first_some}
use Rattle.ed_stock.specs.Limits.{stock_limits}
use Rattle.ed_held.specs.Seen.{stock, known}
use Rattle.ed_climb.specs.Kept.{IsKept}
use Rattle.ed_risen.specs.Laws.{OneVector}
use Rattle.ed_group.proofs.Lasting.{kept_current}
use Rattle.ed_group.proofs.Ready.{kept_ready, kept_low}
use Rattle.ed_group.proofs.stock.Stock.count.Goals as goal
use Rattle.ed_sending.specs.Ready.{IsReady, NamesLower}

pub returns-clause-within : goal.returns-clause-within
returns-clause-within c = subst (λ hs. first_some (stock_limits (stock hs)) ≡ None) c.self.view_is c.self.invariant.within

pub returns-clause-one : goal.returns-clause-one
returns-clause-one c = subst (λ hs. OneVector (stock hs)) c.self.view_is c.self.invariant.one

pub returns-clause-current : goal.returns-clause-current
returns-clause-current c = kept_current c.args.self.now c.self.inside.graph c.self.inside.counts (subst (λ hs. IsKept (map known hs) c.self.inside.graph c.self.inside.counts) c.self.view_is c.self.invariant)

pub returns-clause-ready : goal.returns-clause-ready
returns-clause-ready c = subst (λ hs. IsReady (stock hs)) c.self.view_is (kept_ready _ _ _ c.self.invariant c.order-order.ensures.levelled)

pub returns-clause-low : goal.returns-clause-low
returns-clause-low c = subst (λ hs. NamesLower (stock hs)) c.self.view_is (kept_low _ _ _ c.self.invariant c.order-order.ensures.levelled)
