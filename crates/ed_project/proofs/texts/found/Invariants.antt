use Rattle.std.proofs.Common.{◌≡◌, drop}
use Rattle.ed_project.specs.Texts.{found_text}
use Rattle.ed_project.proofs.texts.found.Given as goal

abbrev pub invariant-loop-snapshot : goal.invariant-loop-snapshot
invariant-loop-snapshot l = found_text (drop l.snapshot-index l.snapshots) l.buffer ≡ found_text l.snapshots l.buffer
