use Rattle.std.proofs.Common.{◌≡◌, ◌+◌, [], ◌∷◌, IfOk, subst}
use Rattle.std.specs.Prelude.{unwrap_or}
use Rattle.ed_stock.specs.Linking.{depth}
use Rattle.ed_machine.specs.State.{State, count}
use Rattle.ed_core.proofs.state.Core.unresolved_over.Goals as goal

pub returns : goal.returns
returns c = subst (λ (u : State). IfOk c.refused_or.result (λ r. r ≡ unwrap_or (depth u.stock (count u + 1) (count u) (c.args.source ∷ [])) c.args.missing)) c.self.view_is (c.refused_or.ensures _ c.judge_elision.ensures)
