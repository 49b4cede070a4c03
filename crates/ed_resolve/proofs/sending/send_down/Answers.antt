-- What has been sent and what is left make all that is sent.
use Rattle.std.proofs.Common.{◌≡◌, ◌<◌, length, ap, subst, ◌∙◌}
use Rattle.std.specs.Prelude.{get_or, option_map}
use Rattle.ed_callbacks.specs.HookLists.{rules}
use Rattle.ed_resolve.proofs.Dealing.{fault_more, none_refused, sent_more}
use Rattle.ed_resolve.proofs.sending.send_down.Goals as goal

pub loop-part-preserved : goal.loop-part-preserved
loop-part-preserved g c =
    let cs = c.args.changes.now.components in
    let k = c.loop-part.part-index in
    let part = c.part-item.result in
    let parts = c.parts-part-items.ensures.components in
    let is : part ≡ get_or cs k part = c.part-item.is ∙ ap (λ xs. get_or xs k part) parts in
    let there : k < length cs = subst (λ xs. k < length xs) parts c.loop-part-test.true in
    let i = c.loop-part.invariant in (
      sent_more c.args.me c.args.members.now (option_map (λ r. rules r.now) c.args.resolver) cs k part c.loop-part.sent.items c.send_component.new.sent.items there is c.in_ok-send_component.ensures.sent i.0,
      fault_more c.args.me c.args.members.now cs k part there is (none_refused _ _ c.in_ok-send_component.ensures.fault) i.1,
    )
