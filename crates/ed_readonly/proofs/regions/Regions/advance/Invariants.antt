-- The regions up to the index have moved, and the others are as they were.
use Rattle.std.proofs.Common.{◌≡◌, ◌++◌, map, take, drop}
use Rattle.ed_base.specs.ChangeList.{new_len, step}
use Rattle.ed_base.specs.Denial.{region_after}
use Rattle.ed_readonly.specs.LiveRegions.{EndWithin}
use Rattle.ed_readonly.proofs.regions.Regions.advance.Given as goal

abbrev pub invariant-loop-region : goal.invariant-loop-region
invariant-loop-region l = record {
  moved : l.region-items ≡ map (region_after (step l.changes)) (take l.region-index l.fn.self.regions) ++ drop l.region-index l.fn.self.regions;
  within : EndWithin (new_len l.changes) (take l.region-index l.region-items);
}
