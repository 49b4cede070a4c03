use Rattle.std.proofs.Common.{◌≡◌, ◌++◌, [], drop}
use Rattle.ed_stock.specs.Making.{sources_in}
use Rattle.ed_group.proofs.listing.sources_in.Given as goal

abbrev pub invariant-loop-member : goal.invariant-loop-member
invariant-loop-member l = l.sources.items ++ sources_in l.sources.items (drop l.member-index l.members) ≡ sources_in [] l.members
