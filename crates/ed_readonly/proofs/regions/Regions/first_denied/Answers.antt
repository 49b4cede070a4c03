-- The region of the first denial.
use Rattle.std.proofs.Common.{sym, ap, ◌∙◌}
use Rattle.std.specs.Prelude.{option_map}
use Rattle.ed_callbacks.specs.HookLists.{hook_table}
use Rattle.ed_readonly.specs.declared.regions.Denial.{Denial}
use Rattle.ed_readonly.proofs.Earliest.{denial_region}
use Rattle.ed_readonly.proofs.regions.Regions.first_denied.Goals as goal

pub returns-in-None : goal.returns-in-None
returns-in-None g c =
    ap (option_map (λ (d : Denial). d.region)) (sym c.in-None.is ∙ c.first_denial.ensures) ∙ denial_region (hook_table c.args.hooks.now) c.args.version c.args.changes.now.changes c.args.self.now.regions

pub returns-in-Some : goal.returns-in-Some
returns-in-Some g c =
    ap (option_map (λ (d : Denial). d.region)) (sym c.in-Some.is ∙ c.first_denial.ensures) ∙ denial_region (hook_table c.args.hooks.now) c.args.version c.args.changes.now.changes c.args.self.now.regions
