use Rattle.ed_map.specs.Images.{AreKnown}
use Rattle.ed_map.proofs.UpSteps.{SoFar}
use Rattle.ed_map.proofs.up.+find_images.Given as goal

abbrev pub decreases-find_images : goal.decreases-find_images
decreases-find_images g l = g.L.Layers.rank l.layers.now l.b l.v

abbrev pub invariant-loop-index : goal.invariant-loop-index
invariant-loop-index g l = record {
  known : AreKnown (g.L.Layers.record_at l.layers) (g.L.Layers.rank l.layers) l.of l.span l.known.items;
  so_far : SoFar (g.L.Layers.record_at l.layers) l.of l.span l.sources l.fn.b l.fn.v l.members l.index l.cuts.items;
}
