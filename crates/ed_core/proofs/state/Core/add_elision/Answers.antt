use Rattle.ed_stock.specs.Making.{elision_of}
use Rattle.ed_group.specs.Answers.{elision_fault}
use Rattle.ed_machine.specs.State.{State}
use Rattle.ed_core.proofs.Passing.{elision-passes}
use Rattle.ed_core.proofs.Settling.{added-within, added-count, added-reply, added-state}
use Rattle.ed_core.proofs.state.Core.add_elision.Goals as goal

pub invariant_of-self-2 : goal.invariant_of-self-2
invariant_of-self-2 c = (
  added-count _ c.args.self.now c.self.view_is c.self.invariant.1 c.self.invariant.0 c.args.name (λ (u : State). elision_of u.stock c.args.source c.args.hide.now) c.args.resolver (λ (u : State). elision_fault u.stock c.args.source c.args.hide.now) _ _ _ c.add_elision-added.result (elision-passes _ c.args.source c.args.hide.now c.args.resolver) c.add_elision-added.ensures.fault c.add_elision-added.ensures.number c.add_elision-added.ensures.ok c.add_elision-added.ensures.err c.in_ok-add_name.ensures.ok _ c.len-before.ensures.len c.settle.ensures.kept c.settle.ensures.gone,
  added-within _ c.args.self.now c.self.view_is c.self.invariant.1 c.self.invariant.0 c.args.name (λ (u : State). elision_of u.stock c.args.source c.args.hide.now) c.args.resolver (λ (u : State). elision_fault u.stock c.args.source c.args.hide.now) _ _ _ c.add_elision-added.result (elision-passes _ c.args.source c.args.hide.now c.args.resolver) c.add_elision-added.ensures.fault c.add_elision-added.ensures.number c.add_elision-added.ensures.ok c.add_elision-added.ensures.err c.in_ok-add_name.ensures.ok _ c.len-before.ensures.len c.settle.ensures.kept c.settle.ensures.gone,
)

pub returns-clause-reply : goal.returns-clause-reply
returns-clause-reply c = added-reply _ c.args.self.now c.self.view_is c.self.invariant.1 c.self.invariant.0 c.args.name (λ (u : State). elision_of u.stock c.args.source c.args.hide.now) c.args.resolver (λ (u : State). elision_fault u.stock c.args.source c.args.hide.now) _ _ _ c.add_elision-added.result (elision-passes _ c.args.source c.args.hide.now c.args.resolver) c.add_elision-added.ensures.fault c.add_elision-added.ensures.number c.add_elision-added.ensures.ok c.add_elision-added.ensures.err c.in_ok-add_name.ensures.ok _ c.len-before.ensures.len c.settle.ensures.kept c.settle.ensures.gone c.settle.result c.settle.ensures.reply

pub returns-clause-state : goal.returns-clause-state
returns-clause-state c = added-state _ c.args.self.now c.self.view_is c.self.invariant.1 c.self.invariant.0 c.args.name (λ (u : State). elision_of u.stock c.args.source c.args.hide.now) c.args.resolver (λ (u : State). elision_fault u.stock c.args.source c.args.hide.now) _ _ _ c.add_elision-added.result (elision-passes _ c.args.source c.args.hide.now c.args.resolver) c.add_elision-added.ensures.fault c.add_elision-added.ensures.number c.add_elision-added.ensures.ok c.add_elision-added.ensures.err c.in_ok-add_name.ensures.ok _ c.len-before.ensures.len c.settle.ensures.kept c.settle.ensures.gone c.settle.result c.settle.ensures.reply
