-- Sorted by the keys.
use Rattle.std.proofs.Common.{ℕ, List, rules, subst}
use Rattle.std.specs.Prelude.{slice_get, IsPermutation}
use Rattle.std.proofs.lemmas.Fn.{always_returns_same}
use Rattle.ed_members.specs.Sorted.{key_of}
use Rattle.ed_members.proofs.Sorting.{sorted_keys}
use Rattle.ed_members.proofs.sorted.sorted.Goals as goal

pub returns-clause-sorted : goal.returns-clause-sorted
returns-clause-sorted c =
    sorted_keys c.args.members.now c.sort_by_key.new.self.items (subst (λ (xs : List ℕ). IsPermutation xs c.sort_by_key.new.self.items) c.in_ok-order.ensures c.in_ok-sort_by_key.ensures.permutation)
    (c.in_ok-sort_by_key.ensures.sorted (λ i. key_of (slice_get c.args.members.now i) i) (always_returns_same _ _ _ (λ a r q k. search rules)))
