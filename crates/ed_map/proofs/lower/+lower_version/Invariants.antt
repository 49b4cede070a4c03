use Rattle.std.proofs.Common.{◌≡◌, map, drop}
use Rattle.ed_base.specs.Numbers.{first_some}
use Rattle.ed_layers.specs.Mapping.{lower_version}
use Rattle.ed_map.proofs.lower.+lower_version.Given as goal

abbrev pub decreases-lower_version : goal.decreases-lower_version
decreases-lower_version g l = g.L.Layers.rank l.layers.now l.top l.v

abbrev pub invariant-loop-entry : goal.invariant-loop-entry
invariant-loop-entry g l = first_some (map (λ s. lower_version (g.L.Layers.record_at l.layers) s.0 s.1 l.of) (drop l.entry-index l.entry-items)) ≡ lower_version (g.L.Layers.record_at l.layers) l.fn.top l.fn.v l.of
