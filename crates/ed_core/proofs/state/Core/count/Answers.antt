use Rattle.std.proofs.Common.{subst}
use Rattle.ed_risen.specs.Laws.{CurrentVector, OneVector}
use Rattle.ed_machine.specs.State.{State}
use Rattle.ed_core.proofs.state.Core.count.Goals as goal
use Rattle.ed_sending.specs.Ready.{IsReady, NamesLower}

pub returns-clause-one : goal.returns-clause-one
returns-clause-one c = subst (λ (s : State). OneVector s.stock) c.self.view_is c.count.ensures.one

pub returns-clause-current : goal.returns-clause-current
returns-clause-current c = subst (λ (s : State). CurrentVector s.stock) c.self.view_is c.count.ensures.current

pub returns-clause-ready : goal.returns-clause-ready
returns-clause-ready c = subst (λ (s : State). IsReady s.stock) c.self.view_is c.count.ensures.ready

pub returns-clause-low : goal.returns-clause-low
returns-clause-low c = subst (λ (s : State). NamesLower s.stock) c.self.view_is c.count.ensures.low
