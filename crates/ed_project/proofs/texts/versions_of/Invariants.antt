use Rattle.std.proofs.Common.{◌≡◌, take}
use Rattle.ed_project.specs.Texts.{versions_of}
use Rattle.ed_project.proofs.texts.versions_of.Given as goal

abbrev pub invariant-loop-snapshot : goal.invariant-loop-snapshot
invariant-loop-snapshot l = l.versions.items ≡ versions_of (take l.snapshot-index l.snapshots)
