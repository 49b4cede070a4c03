use Rattle.std.proofs.Common.{◌≡◌, drop}
use Rattle.ed_layers.specs.Records.{version_in}
use Rattle.ed_map.proofs.shown.version_of.Given as goal

abbrev pub invariant-loop-entry : goal.invariant-loop-entry
invariant-loop-entry l = version_in (drop l.entry-index l.sources) l.source ≡ version_in l.sources l.source
