use Rattle.std.proofs.Common.{None}
use Rattle.ed_layers.specs.Records.{base}
use Rattle.ed_group.specs.Answers.{base_fault}
use Rattle.ed_machine.specs.State.{State}
use Rattle.ed_core.proofs.Settling.{added-within, added-count, added-reply, added-state}
use Rattle.ed_core.proofs.state.Core.add_base.Goals as goal

pub invariant_of-self-2 : goal.invariant_of-self-2
invariant_of-self-2 c = (
  added-count _ c.args.self.now c.self.view_is c.self.invariant.1 c.self.invariant.0 c.args.name (λ u. base c.args.text.now 0) None (λ (u : State). base_fault u.stock c.args.text.now) _ _ _ c.add_base-added.result (λ e. e) c.add_base-added.ensures.fault c.add_base-added.ensures.number c.add_base-added.ensures.ok c.add_base-added.ensures.err c.in_ok-add_name.ensures.ok _ c.len-before.ensures.len c.settle.ensures.kept c.settle.ensures.gone,
  added-within _ c.args.self.now c.self.view_is c.self.invariant.1 c.self.invariant.0 c.args.name (λ u. base c.args.text.now 0) None (λ (u : State). base_fault u.stock c.args.text.now) _ _ _ c.add_base-added.result (λ e. e) c.add_base-added.ensures.fault c.add_base-added.ensures.number c.add_base-added.ensures.ok c.add_base-added.ensures.err c.in_ok-add_name.ensures.ok _ c.len-before.ensures.len c.settle.ensures.kept c.settle.ensures.gone,
)

pub returns-clause-reply : goal.returns-clause-reply
returns-clause-reply c = added-reply _ c.args.self.now c.self.view_is c.self.invariant.1 c.self.invariant.0 c.args.name (λ u. base c.args.text.now 0) None (λ (u : State). base_fault u.stock c.args.text.now) _ _ _ c.add_base-added.result (λ e. e) c.add_base-added.ensures.fault c.add_base-added.ensures.number c.add_base-added.ensures.ok c.add_base-added.ensures.err c.in_ok-add_name.ensures.ok _ c.len-before.ensures.len c.settle.ensures.kept c.settle.ensures.gone c.settle.result c.settle.ensures.reply

pub returns-clause-state : goal.returns-clause-state
returns-clause-state c = added-state _ c.args.self.now c.self.view_is c.self.invariant.1 c.self.invariant.0 c.args.name (λ u. base c.args.text.now 0) None (λ (u : State). base_fault u.stock c.args.text.now) _ _ _ c.add_base-added.result (λ e. e) c.add_base-added.ensures.fault c.add_base-added.ensures.number c.add_base-added.ensures.ok c.add_base-added.ensures.err c.in_ok-add_name.ensures.ok _ c.len-before.ensures.len c.settle.ensures.kept c.settle.ensures.gone c.settle.result c.settle.ensures.reply
