use Rattle.std.proofs.Common.{◌≡◌, map, take}
use Rattle.ed_held.specs.Moves.{snapshot_after}
use Rattle.ed_climb.proofs.sources.snapshots.Given as goal

abbrev pub invariant-loop-source : goal.invariant-loop-source
invariant-loop-source l = l.found.items ≡ map (λ v. snapshot_after l.buffers l.moves v.0) (take l.source-index l.sources)
