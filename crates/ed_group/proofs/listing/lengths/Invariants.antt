use Rattle.std.proofs.Common.{◌≡◌, length, map, take}
use Rattle.ed_group.proofs.listing.lengths.Given as goal

abbrev pub invariant-loop-snapshot : goal.invariant-loop-snapshot
invariant-loop-snapshot l = l.found.items ≡ map (λ s. (s.buffer, length s.text)) (take l.snapshot-index l.snapshots)
