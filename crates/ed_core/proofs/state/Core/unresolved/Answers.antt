use Rattle.std.proofs.Common.{◌≡◌, IfOk, subst}
use Rattle.std.specs.Prelude.{unwrap_or}
use Rattle.ed_group.specs.Judging.{standing_fault}
use Rattle.ed_machine.specs.State.{State}
use Rattle.ed_core.proofs.state.Core.unresolved.Goals as goal

pub returns : goal.returns
returns c = subst (λ (u : State). IfOk c.refused_or.result (λ r. r ≡ unwrap_or (standing_fault u.stock c.args.members.items) c.args.missing)) c.self.view_is (c.refused_or.ensures _ c.judge_projection.ensures)
