use Rattle.std.proofs.Common.{◌≡◌, drop}
use Rattle.ed_members.specs.Faults.{len_in}
use Rattle.ed_members.proofs.modes.source_len.Given as goal

abbrev pub invariant-loop-pair : goal.invariant-loop-pair
invariant-loop-pair l = len_in (drop l.pair-index l.lengths) l.source ≡ len_in l.lengths l.source
