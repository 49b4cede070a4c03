use Rattle.std.proofs.Common.{◌^◌}
use Rattle.ed_base.proofs.NormalLists.{few_changes}
use Rattle.ed_base.proofs.changes.Changes.as_slice.Goals as goal

pub returns-in-Some-clause-few : goal.returns-in-Some-clause-few
returns-in-Some-clause-few c =
    rw (← c.self.view_is) (few_changes (2 ^ 32) _ _ c.self.invariant.normal.changes c.self.invariant.old_short c.self.invariant.normal.fits)
