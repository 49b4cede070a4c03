use Rattle.std.proofs.Common.{◌≤◌, ◌<◌, ◌∙◌, arith}
use Rattle.ed_base.specs.Tracking.{custom_span}
use Rattle.ed_stock.specs.Stock.{buffer}
use Rattle.ed_group.specs.Seen.{stock as seen}
use Rattle.ed_core.proofs.Ranges.{forward, backward}
use Rattle.ed_core.proofs.between.custom_between.Goals as goal

pub returns-then-from-to : goal.returns-then-from-to
returns-then-from-to g c =
    let order : c.args.from ≤ c.args.to = omega (arith, c.if-from-to.true, c.from.view_is, c.to.view_is) in
    c.custom_through.ensures ∙ forward (custom_span c.args.custom.now.rule) (buffer (seen c.args.stock.now) c.args.buffer).changes c.steps.result.now _ c.args.from c.args.to order c.steps.ensures.changes

pub returns-else-from-to : goal.returns-else-from-to
returns-else-from-to g c =
    let order : c.args.to < c.args.from = omega (arith, c.if-from-to.false, c.from.view_is, c.to.view_is) in
    c.back_custom_through.ensures ∙ backward (custom_span c.args.custom.now.rule) (buffer (seen c.args.stock.now) c.args.buffer).changes c.steps-else-from-to.result.now _ c.args.from c.args.to order c.steps-else-from-to.ensures.changes
