-- The targets are as short and as few as the members.
use Rattle.std.proofs.Common.{◌++◌, length, arith, ap, sym, ◌∙◌}
use Rattle.std.specs.Prelude.{nat_eq, option_map}
use Rattle.ed_callbacks.specs.HookLists.{rules}
use Rattle.ed_resolve.specs.Sends.{dealt, rule_in}
use Rattle.ed_resolve.proofs.Dealing.{sent_is_dealt, targets_few, targets_short}
use Rattle.ed_resolve.proofs.sending.send_component.Goals as goal

pub send_part-requires-clause-few : goal.send_part-requires-clause-few
send_part-requires-clause-few g c =
    let e = c.deref.ensures.value in
    let f = c.in_ok-targets.ensures.targets in
    let few = targets_few c.args.members.now c.args.part.now in
    let m = c.requires.few in
    omega (arith, ap length e, ap length f, few, m)

pub send_part-requires-clause-bounds : goal.send_part-requires-clause-bounds
send_part-requires-clause-bounds g c = rw (c.deref.ensures.value, c.in_ok-targets.ensures.targets) (targets_short c.args.members.now c.args.part.now c.requires.bounds)

pub returns-clause-sent : goal.returns-clause-sent
returns-clause-sent g c =
    let resolver = option_map (λ r. rules r.now) c.args.resolver in
    let part = c.args.part.now in
    let are = c.deref.ensures.value ∙ c.in_ok-targets.ensures.targets in
    c.in_ok-send_part.ensures
    ∙ ap (λ ts. c.args.sent.now.items ++ dealt c.args.me (rule_in resolver (nat_eq part.old_len 0)) part.text (length ts) ts) are
    ∙ ap (λ xs. c.args.sent.now.items ++ xs) (sym (sent_is_dealt c.args.me c.args.members.now resolver part))
