use Rattle.std.proofs.Common.{sym, ap, ◌∙◌}
use Rattle.ed_callbacks.specs.HookLists.{hook_table}
use Rattle.ed_machine.specs.Step.{within_limits, weighed}
use Rattle.ed_core.specs.RegionOutcomes.{region_made}
use Rattle.ed_core.proofs.RegionTelling.{region_missing, region_refused, region_step}
use Rattle.ed_core.proofs.Doing.{does_as, refused_does}
use Rattle.ed_core.proofs.state.Core.add_region.Goals as goal

pub returns-in_default : goal.returns-in_default
returns-in_default g c = refused_does _ c.args.self.now _ (region_missing (hook_table c.args.hooks.now) c.args.self.now c.args.name.now c.args.span.start c.args.span.len c.args.edge c.args.mode c.args.query.now c.in_default.ensures.number)

pub returns-in-Some-region_refusal : goal.returns-in-Some-region_refusal
returns-in-Some-region_refusal g c = refused_does _ c.args.self.now _ (region_refused (hook_table c.args.hooks.now) c.args.self.now c.args.name.now c.args.span.start c.args.span.len c.args.edge c.args.mode c.args.query.now c.in-Some.buffer c.in-Some-region_refusal.refusal c.in-Some.ensures.number c.in-Some-region_refusal.ensures.refusal)

pub returns : goal.returns
returns g c = does_as _ _ c.args.self.now c.make_region.new.self c.make_region.result (ap (λ q. within_limits c.args.self.now (weighed (region_made c.args.self.now c.in-Some.buffer c.args.span c.args.mode c.args.edge q))) c.in_ok-kept.ensures ∙ sym (region_step (hook_table c.args.hooks.now) c.args.self.now c.args.name.now c.args.span.start c.args.span.len c.args.edge c.args.mode c.args.query.now c.in-Some.buffer c.in-Some.ensures.number c.in_default-region_refusal.ensures.refusal)) c.make_region.ensures.reply c.make_region.ensures.state c.make_region.ensures.err c.make_region.ensures.stay
