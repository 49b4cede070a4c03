use Rattle.std.proofs.Common.{◌≡◌, ◌++◌}
use Rattle.ed_layers.specs.Sending.{deleted_literal, targets}
use Rattle.ed_resolve.specs.Sends.{literal_from, targets_from}
use Rattle.ed_resolve.proofs.target.reached.Given as goal

abbrev pub invariant-loop-index : goal.invariant-loop-index
invariant-loop-index l = (l.targets.items ++ targets_from l.members l.part l.index ≡ targets l.members l.part) × (literal_from l.members l.part l.index ≡ deleted_literal l.members l.part)
