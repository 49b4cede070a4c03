-- Each call of the closure gives the key, so the sort is by the keys.
use Rattle.std.proofs.Common.{◌≡◌, map, rules}
use Rattle.std.proofs.lemmas.List.Sorted.{answers_always}
use Rattle.ed_pieces.specs.Order.{key_of}
use Rattle.ed_pieces.proofs.Keys.{in_order}
use Rattle.ed_pieces.proofs.order.in_order.Goals as goal

pub returns : goal.returns
returns c =
    let lent : map (λ b. b.now) c.in_ok-order.order.items ≡ c.args.pieces.now = search rules in
    rw (← lent) (in_order c.in_ok-order.order.items c.sort_by_key.new.self.items c.sort_by_key.ensures.permutation
    (c.in_ok-sort_by_key.ensures.sorted (λ b. key_of b.now) (answers_always _ _ _ (λ f a r g h. search rules)))
    (c.sort_by_key.ensures.stable (λ b. key_of b.now) (answers_always _ _ _ (λ f a r g h. search rules))))
