use Rattle.std.proofs.Common.{◌≡◌, ◌++◌}
use Rattle.ed_base.specs.Spans.{end_of}
use Rattle.ed_map.specs.Down.{down_within}
use Rattle.ed_map.proofs.DownSteps.{source_images}
use Rattle.ed_map.proofs.MemberParts.{down_rest}
use Rattle.ed_map.proofs.down.+put_images.Given as goal

abbrev pub decreases-put_images : goal.decreases-put_images
decreases-put_images g l = g.L.Layers.rank l.layers.now l.b l.v

abbrev pub invariant-loop-index : goal.invariant-loop-index
invariant-loop-index g l =
    l.images.items ++ down_rest (source_images (g.L.Layers.record_at l.layers) l.to l.sources) l.members l.part.start (end_of l.part) l.index
    ≡ l.fn.images.items ++ down_within (g.L.Layers.record_at l.layers) 9 l.to l.fn.b l.fn.v l.part.start (end_of l.part)
