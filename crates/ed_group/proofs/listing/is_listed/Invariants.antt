use Rattle.std.proofs.Common.{◌≡◌, drop}
use Rattle.ed_base.specs.Numbers.{is_among}
use Rattle.ed_group.proofs.listing.is_listed.Given as goal

abbrev pub invariant-loop-listed : goal.invariant-loop-listed
invariant-loop-listed l = is_among l.source (drop l.listed-index l.sources) ≡ is_among l.source l.sources
