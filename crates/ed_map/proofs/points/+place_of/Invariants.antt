use Rattle.ed_map.proofs.points.+place_of.Given as goal

abbrev pub decreases-place_of : goal.decreases-place_of
decreases-place_of g l = g.L.Layers.rank l.layers.now l.b l.v
