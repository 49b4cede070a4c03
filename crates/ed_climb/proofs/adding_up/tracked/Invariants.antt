use Rattle.std.proofs.Common.{◌≡◌, take}
use Rattle.std.specs.Prelude.{count_by}
use Rattle.ed_layers.specs.Records.{is_tracked}
use Rattle.ed_climb.proofs.adding_up.tracked.Given as goal

abbrev pub invariant-loop-i : goal.invariant-loop-i
invariant-loop-i l = l.total ≡ count_by is_tracked (take l.i l.members)
