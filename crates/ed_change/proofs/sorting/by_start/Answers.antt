-- Each call of the closure gives the start, so the sort is by the starts.
use Rattle.std.proofs.Common.{◌≡◌, map, rules}
use Rattle.std.proofs.lemmas.List.Sorted.{answers_always}
use Rattle.ed_change.proofs.Order.{in_order}
use Rattle.ed_change.proofs.sorting.by_start.Goals as goal

pub returns : goal.returns
returns c =
    let lent : map (λ b. b.now) c.in_ok-order.order.items ≡ c.args.replaces.now = search rules in
    rw (← lent) (in_order c.in_ok-order.order.items c.sort_by_key.new.self.items c.sort_by_key.ensures.permutation
    (c.in_ok-sort_by_key.ensures.sorted (λ b. b.now.start) (answers_always _ _ _ (λ f a r g h. search rules)))
    (c.sort_by_key.ensures.stable (λ b. b.now.start) (answers_always _ _ _ (λ f a r g h. search rules))))
