-- The first denial among the regions up to the index, joined to that among the others.
use Rattle.std.proofs.Common.{◌≡◌, drop}
use Rattle.ed_callbacks.specs.HookLists.{hook_table}
use Rattle.ed_readonly.specs.Denied.{earlier, first_denial}
use Rattle.ed_readonly.proofs.regions.Regions.first_denial.Given as goal

abbrev pub invariant-loop-region : goal.invariant-loop-region
invariant-loop-region g l = earlier l.first (first_denial (hook_table l.hooks) l.version l.changes.changes (drop l.region-index l.region-items)) ≡ first_denial (hook_table l.hooks) l.version l.changes.changes l.self.regions
