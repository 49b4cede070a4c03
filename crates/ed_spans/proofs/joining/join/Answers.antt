-- What remains of the spans, sorted, rises and holds what they hold.
use Rattle.std.proofs.Common.{◌∙◌, ◌^◌, ◌-◌}
use Rattle.ed_spans.specs.SpanSets.{AreInOrder}
use Rattle.ed_spans.proofs.JoinLemmas.{order_within, order_rising, order_holds, order_runs}
use Rattle.ed_spans.proofs.joining.join.Goals as goal

pub join_rising-requires : goal.join_rising-requires
join_rising-requires c =
    let order : AreInOrder c.args.spans.now c.deref.result.now = rw c.deref.ensures.value c.in_ok-order.ensures in
    record { rising = order_rising c.args.spans.now c.deref.result.now order (2 ^ 32 - 1) c.requires.within }

pub returns-clause-holds : goal.returns-clause-holds
returns-clause-holds c q =
    let order : AreInOrder c.args.spans.now c.deref.result.now = rw c.deref.ensures.value c.in_ok-order.ensures in
    c.in_ok-joined.ensures.holds q ∙ order_holds c.args.spans.now c.deref.result.now order q

pub returns-clause-apart : goal.returns-clause-apart
returns-clause-apart c n within =
    let order : AreInOrder c.args.spans.now c.deref.result.now = rw c.deref.ensures.value c.in_ok-order.ensures in
    c.in_ok-joined.ensures.apart n (order_within c.args.spans.now c.deref.result.now order n within)

pub returns-clause-runs : goal.returns-clause-runs
returns-clause-runs c n within =
    let order : AreInOrder c.args.spans.now c.deref.result.now = rw c.deref.ensures.value c.in_ok-order.ensures in
    c.in_ok-joined.ensures.joined ∙ order_runs c.args.spans.now c.deref.result.now order n within
