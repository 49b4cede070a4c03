use Rattle.std.proofs.Common.{◌≡◌}
use Rattle.ed_base.specs.Spans.{end_of}
use Rattle.ed_map.specs.Up.{first_within}
use Rattle.ed_map.proofs.FirstSteps.{source_first}
use Rattle.ed_map.proofs.MemberParts.{first_from}
use Rattle.ed_map.proofs.points.+first_of.Given as goal

abbrev pub decreases-first_of : goal.decreases-first_of
decreases-first_of g l = g.L.Layers.rank l.layers.now l.b l.v

abbrev pub invariant-loop-index : goal.invariant-loop-index
invariant-loop-index g l =
    first_from (source_first (g.L.Layers.record_at l.layers) l.of l.unit l.sources) l.members l.part.start (end_of l.part) l.index
    ≡ first_within (g.L.Layers.record_at l.layers) 9 l.of l.unit l.fn.b l.fn.v l.part.start (end_of l.part)
