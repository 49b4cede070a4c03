use Rattle.std.proofs.Common.{◌≡◌, IfOk, sym, ◌∙◌, subst, ap}
use Rattle.ed_risen.specs.Laws.{RecordsStay}
use Rattle.ed_group.specs.Seen.{stock as seen}
use Rattle.ed_stock.specs.Stock.{Stock}
use Rattle.ed_callbacks.specs.HookLists.{hook_table}
use Rattle.ed_group.specs.EditedStock.{edits_fault, edits_landed, edits_sent}
use Rattle.ed_stock.specs.Versions.{none_given}
use Rattle.ed_machine.specs.Accepted.{Outcome}
use Rattle.ed_machine.specs.State.{State}
use Rattle.ed_core.proofs.Keeping.{keeps-landed}
use Rattle.ed_core.proofs.Normalised.{some-changes}
use Rattle.ed_core.specs.Deciding.{one_edit}
use Rattle.ed_core.proofs.Passing.{edits-pass}
use Rattle.ed_core.proofs.Settling.{landed-within, landed-count, landed-reply}
use Rattle.ed_core.proofs.state.Core.land_changes.Goals as goal

pub invariant_of-self : goal.invariant_of-self
invariant_of-self g c = (
  c.self.invariant.0 ∙ landed-count _ c.args.self.now c.self.view_is c.self.invariant.1 (λ (u : State). edits_landed (hook_table c.args.hooks.now) u.stock (one_edit c.args.buffer c.args.changes)) (λ (u : State). edits_fault (hook_table c.args.hooks.now) u.stock (one_edit c.args.buffer c.args.changes)) _ c.plan-planned.result (keeps-landed _ (edits_sent (hook_table c.args.hooks.now) _ (one_edit c.args.buffer c.args.changes)) none_given none_given) (edits-pass (hook_table c.args.hooks.now) _ (one_edit c.args.buffer c.args.changes)) _ c.plan-planned.ensures.same c.plan-planned.ensures.fault c.plan-planned.ensures.versions c.plan-planned.ensures.outcome c.land.ensures.made c.land.ensures.same,
  landed-within _ c.args.self.now c.self.view_is c.self.invariant.1 (λ (u : State). edits_landed (hook_table c.args.hooks.now) u.stock (one_edit c.args.buffer c.args.changes)) (λ (u : State). edits_fault (hook_table c.args.hooks.now) u.stock (one_edit c.args.buffer c.args.changes)) _ c.plan-planned.result (keeps-landed _ (edits_sent (hook_table c.args.hooks.now) _ (one_edit c.args.buffer c.args.changes)) none_given none_given) (edits-pass (hook_table c.args.hooks.now) _ (one_edit c.args.buffer c.args.changes)) _ c.plan-planned.ensures.same c.plan-planned.ensures.fault c.plan-planned.ensures.versions c.plan-planned.ensures.outcome c.land.ensures.made c.land.ensures.same,
)

pub returns-clause-reply : goal.returns-clause-reply
returns-clause-reply g c = subst (λ (o : Outcome). IfOk c.land.result (λ r. r ≡ o.reply)) (sym (some-changes (hook_table c.args.hooks.now) c.args.self.now c.args.buffer c.args.changes (λ e. c.if-count-eq0.false (c.count.ensures ∙ e)))) (landed-reply _ c.args.self.now c.self.view_is c.self.invariant.1 (λ (u : State). edits_landed (hook_table c.args.hooks.now) u.stock (one_edit c.args.buffer c.args.changes)) (λ (u : State). edits_fault (hook_table c.args.hooks.now) u.stock (one_edit c.args.buffer c.args.changes)) _ c.plan-planned.result (keeps-landed _ (edits_sent (hook_table c.args.hooks.now) _ (one_edit c.args.buffer c.args.changes)) none_given none_given) (edits-pass (hook_table c.args.hooks.now) _ (one_edit c.args.buffer c.args.changes)) _ c.plan-planned.ensures.same c.plan-planned.ensures.fault c.plan-planned.ensures.versions c.plan-planned.ensures.outcome c.land.ensures.made c.land.ensures.same c.land.result c.land.ensures.reply)

pub returns-clause-stay : goal.returns-clause-stay
returns-clause-stay g c = subst (λ (s : Stock). RecordsStay s (seen c.land.new.stock)) (c.plan-planned.ensures.same ∙ ap (λ (u : State). u.stock) c.self.view_is) c.land.ensures.stay
