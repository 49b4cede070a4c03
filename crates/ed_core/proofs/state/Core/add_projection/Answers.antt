use Rattle.ed_stock.specs.Making.{projection_of}
use Rattle.ed_group.specs.Answers.{projection_fault}
use Rattle.ed_machine.specs.State.{State}
use Rattle.ed_core.proofs.Passing.{projection-passes}
use Rattle.ed_core.proofs.Settling.{added-within, added-count, added-reply, added-state}
use Rattle.ed_core.proofs.state.Core.add_projection.Goals as goal

pub invariant_of-self-2 : goal.invariant_of-self-2
invariant_of-self-2 c = (
  added-count _ c.args.self.now c.self.view_is c.self.invariant.1 c.self.invariant.0 c.args.name (λ (u : State). projection_of u.stock c.args.members.items) c.args.resolver (λ (u : State). projection_fault u.stock c.args.members.items) _ _ _ c.add_projection-added.result (projection-passes _ c.args.members.items c.args.resolver) c.add_projection-added.ensures.fault c.add_projection-added.ensures.number c.add_projection-added.ensures.ok c.add_projection-added.ensures.err c.in_ok-add_name.ensures.ok _ c.len-before.ensures.len c.settle.ensures.kept c.settle.ensures.gone,
  added-within _ c.args.self.now c.self.view_is c.self.invariant.1 c.self.invariant.0 c.args.name (λ (u : State). projection_of u.stock c.args.members.items) c.args.resolver (λ (u : State). projection_fault u.stock c.args.members.items) _ _ _ c.add_projection-added.result (projection-passes _ c.args.members.items c.args.resolver) c.add_projection-added.ensures.fault c.add_projection-added.ensures.number c.add_projection-added.ensures.ok c.add_projection-added.ensures.err c.in_ok-add_name.ensures.ok _ c.len-before.ensures.len c.settle.ensures.kept c.settle.ensures.gone,
)

pub returns-clause-reply : goal.returns-clause-reply
returns-clause-reply c = added-reply _ c.args.self.now c.self.view_is c.self.invariant.1 c.self.invariant.0 c.args.name (λ (u : State). projection_of u.stock c.args.members.items) c.args.resolver (λ (u : State). projection_fault u.stock c.args.members.items) _ _ _ c.add_projection-added.result (projection-passes _ c.args.members.items c.args.resolver) c.add_projection-added.ensures.fault c.add_projection-added.ensures.number c.add_projection-added.ensures.ok c.add_projection-added.ensures.err c.in_ok-add_name.ensures.ok _ c.len-before.ensures.len c.settle.ensures.kept c.settle.ensures.gone c.settle.result c.settle.ensures.reply

pub returns-clause-state : goal.returns-clause-state
returns-clause-state c = added-state _ c.args.self.now c.self.view_is c.self.invariant.1 c.self.invariant.0 c.args.name (λ (u : State). projection_of u.stock c.args.members.items) c.args.resolver (λ (u : State). projection_fault u.stock c.args.members.items) _ _ _ c.add_projection-added.result (projection-passes _ c.args.members.items c.args.resolver) c.add_projection-added.ensures.fault c.add_projection-added.ensures.number c.add_projection-added.ensures.ok c.add_projection-added.ensures.err c.in_ok-add_name.ensures.ok _ c.len-before.ensures.len c.settle.ensures.kept c.settle.ensures.gone c.settle.result c.settle.ensures.reply
