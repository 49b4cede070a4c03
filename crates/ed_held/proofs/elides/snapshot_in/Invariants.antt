use Rattle.std.proofs.Common.{◌≡◌, drop}
use Rattle.ed_held.specs.OfElisions.{found_snapshot}
use Rattle.ed_held.proofs.elides.snapshot_in.Given as goal

abbrev pub invariant-loop-snapshot : goal.invariant-loop-snapshot
invariant-loop-snapshot l = found_snapshot (drop l.snapshot-index l.snapshots) l.buffer ≡ found_snapshot l.snapshots l.buffer
