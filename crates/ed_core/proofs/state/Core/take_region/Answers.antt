use Rattle.std.proofs.Common.{◌∙◌}
use Rattle.ed_core.proofs.RegionSteps.{gone-within, gone-count, gone-whole}
use Rattle.ed_core.proofs.state.Core.take_region.Goals as goal

pub invariant_of-self : goal.invariant_of-self
invariant_of-self c = (
  c.self.invariant.0 ∙ gone-count _ c.args.self.now c.self.view_is c.self.invariant.1 c.args.buffer c.requires.there c.args.region _ c.remove_region.ensures.regions,
  gone-within _ c.args.self.now c.self.view_is c.self.invariant.1 c.args.buffer c.requires.there c.args.region _ c.remove_region.ensures.regions,
)

pub returns-clause-whole : goal.returns-clause-whole
returns-clause-whole c = gone-whole _ c.args.self.now c.self.view_is c.self.invariant.1 c.args.buffer c.requires.there c.args.region _ c.remove_region.ensures.regions
