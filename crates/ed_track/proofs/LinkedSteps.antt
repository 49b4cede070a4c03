-- Parts of linked steps are linked: for callers that hold a whole chain.
use Rattle.std.proofs.Common.{ℕ, zero, suc, ◌≤◌, List, [], ◌∷◌, take, drop, arith}
use Rattle.ed_base.specs.ChangeList.{ChangeList, new_len}
use Rattle.ed_track.specs.Linked.{AreLinkedFrom, AreLinked, len_before}

pub linked_from : (n : ℕ) (cs : List ChangeList) → AreLinkedFrom n cs → AreLinked cs
linked_from n [] linked = tt
linked_from n (c ∷ cs) linked = linked.1

-- a place of the text at which they begin
pub within_from : (n p : ℕ) (cs : List ChangeList) → AreLinkedFrom n cs → p ≤ n → p ≤ len_before p cs
within_from n p [] linked within = omega arith
within_from n p (c ∷ cs) linked within = omega (arith, linked.0)

pub linked_from_take : (n k : ℕ) (cs : List ChangeList) → AreLinkedFrom n cs → AreLinkedFrom n (take k cs)
linked_from_take n zero cs linked = tt
linked_from_take n (suc k) [] linked = tt
linked_from_take n (suc k) (c ∷ cs) linked = (linked.0, linked_from_take (new_len c) k cs linked.1)

pub linked_take : (k : ℕ) (cs : List ChangeList) → AreLinked cs → AreLinked (take k cs)
linked_take zero cs linked = tt
linked_take (suc k) [] linked = tt
linked_take (suc k) (c ∷ cs) linked = linked_from_take (new_len c) k cs linked

pub linked_drop : (k : ℕ) (cs : List ChangeList) → AreLinked cs → AreLinked (drop k cs)
linked_drop zero cs linked = linked
linked_drop (suc k) [] linked = tt
linked_drop (suc k) (c ∷ cs) linked = linked_drop k cs (linked_from (new_len c) cs linked)
