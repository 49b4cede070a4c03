use Rattle.std.proofs.Common.{◌≡◌, ◌++◌, drop}
use Rattle.std.specs.Prelude.{flat_map}
use Rattle.ed_map.specs.Up.{cut_to}
use Rattle.ed_map.proofs.up.put_cuts.Given as goal

abbrev pub invariant-loop-index : goal.invariant-loop-index
invariant-loop-index l = l.cuts.items ++ flat_map (cut_to l.bounds l.at) (drop l.index l.spans) ≡ l.fn.cuts.items ++ flat_map (cut_to l.bounds l.at) l.spans
