use Rattle.std.proofs.Common.{◌≡◌, map, take}
use Rattle.ed_version.proofs.chain.Chain.reiterated_numbers.Given as goal

abbrev pub invariant-loop-version : goal.invariant-loop-version
invariant-loop-version l = l.numbers.items ≡ map (λ v. v.reiterated) (take l.version-index l.versions)
