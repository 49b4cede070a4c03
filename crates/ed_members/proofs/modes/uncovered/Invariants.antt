use Rattle.std.proofs.Common.{◌≡◌, drop}
use Rattle.std.specs.Prelude.{find, option_map}
use Rattle.std.specs.List.{enumerate_from}
use Rattle.ed_layers.specs.Order.{fails_to_cover}
use Rattle.ed_members.specs.Faults.{len_in, first_uncovered}
use Rattle.ed_members.proofs.modes.uncovered.Given as goal

abbrev pub invariant-loop-index : goal.invariant-loop-index
invariant-loop-index l =
    option_map (λ im. im.0) (find (λ im. fails_to_cover (len_in l.lengths) im.1) (enumerate_from l.index (drop l.index l.members))) ≡ first_uncovered (len_in l.lengths) l.members
