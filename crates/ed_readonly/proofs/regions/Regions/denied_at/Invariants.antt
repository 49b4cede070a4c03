-- No region up to the index denies.
use Rattle.std.proofs.Common.{◌≡◌, drop}
use Rattle.ed_base.specs.Denial.{denied_at}
use Rattle.ed_callbacks.specs.HookLists.{hook_table}
use Rattle.ed_readonly.proofs.regions.Regions.denied_at.Given as goal

abbrev pub invariant-loop-region : goal.invariant-loop-region
invariant-loop-region g l = denied_at (hook_table l.hooks) (drop l.region-index l.region-items) l.version l.edit l.at ≡ denied_at (hook_table l.hooks) l.self.regions l.version l.edit l.at
