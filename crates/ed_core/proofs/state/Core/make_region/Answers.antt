use Rattle.std.proofs.Common.{◌∙◌}
use Rattle.ed_core.proofs.RegionSteps.{seen-within, seen-count, seen-reply, seen-state}
use Rattle.ed_core.proofs.state.Core.make_region.Goals as goal

pub invariant_of-self : goal.invariant_of-self
invariant_of-self c = (
  c.self.invariant.0 ∙ seen-count _ c.args.self.now c.self.view_is c.self.invariant.1 c.args.buffer c.requires.there c.args.span c.args.mode c.args.edge c.args.query _ c.add_region-added.result c.add_region-added.ensures.limit c.add_region-added.ensures.number c.add_region-added.ensures.ok c.add_region-added.ensures.err,
  seen-within _ c.args.self.now c.self.view_is c.self.invariant.1 c.args.buffer c.requires.there c.args.span c.args.mode c.args.edge c.args.query _ c.add_region-added.result c.add_region-added.ensures.limit c.add_region-added.ensures.number c.add_region-added.ensures.ok c.add_region-added.ensures.err,
)

pub returns-clause-reply : goal.returns-clause-reply
returns-clause-reply c = seen-reply _ c.args.self.now c.self.view_is c.self.invariant.1 c.args.buffer c.requires.there c.args.span c.args.mode c.args.edge c.args.query _ c.add_region-added.result c.add_region-added.ensures.limit c.add_region-added.ensures.number c.add_region-added.ensures.ok c.add_region-added.ensures.err c.region_reply.result c.region_reply.ensures.reply

pub returns-clause-state : goal.returns-clause-state
returns-clause-state c = seen-state _ c.args.self.now c.self.view_is c.self.invariant.1 c.args.buffer c.requires.there c.args.span c.args.mode c.args.edge c.args.query _ c.add_region-added.result c.add_region-added.ensures.limit c.add_region-added.ensures.number c.add_region-added.ensures.ok c.add_region-added.ensures.err c.region_reply.result c.region_reply.ensures.reply
