use Rattle.std.proofs.Common.{◌≡◌, map, take}
use Rattle.ed_held.specs.Moves.{snapshot_now}
use Rattle.ed_group.proofs.listing.newest_all.Given as goal

abbrev pub invariant-loop-source : goal.invariant-loop-source
invariant-loop-source l = l.found.items ≡ map (snapshot_now l.buffers) (take l.source-index l.sources)
