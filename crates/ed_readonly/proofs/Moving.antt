-- Lists that are rewritten in place, element by element.
use Rattle.std.proofs.Common.{◌≡◌, ℕ, ◌+◌, ◌<◌, ◌≤◌, List, [], ◌++◌, length, map, take, drop, set, refl, ◌∙◌, arith, append-nil}
use Rattle.std.proofs.lemmas.List.{drop_all, take_all, take_more_set}
use Rattle.std.proofs.lemmas.List.Elements.{All-push}
use Rattle.std.specs.List.{All}

-- a list that another of its length was written over
pub written_over : {X : Type 0} (xs ys : List X) (n : ℕ) → length ys ≡ length xs → n ≡ length xs → take n (ys ++ drop (length ys) xs) ≡ ys
written_over xs ys n same len = rw (drop_all (length ys) xs (omega arith), append-nil) (take_all n ys (omega arith))

-- past the last index all is rewritten
pub all_rewritten : {X : Type 0} (f : X → X) (xs ys : List X) (i : ℕ) → length xs ≤ i → ys ≡ map f (take i xs) ++ drop i xs → ys ≡ map f xs
all_rewritten f xs ys i past is =
    let front : take i xs ≡ xs = take_all i xs past in
    let back : drop i xs ≡ [] = drop_all i xs past in
    is ∙ rw (front, back, append-nil) refl

-- what holds of each that is rewritten
pub holds_one_more : {X : Type 0} (P : X → Type 0) (ys : List X) (i : ℕ) (y : X) → i < length ys → P y → All P (take i ys) → All P (take (i + 1) (set ys i y))
holds_one_more P ys i y within holds before = rw take_more_set (All-push P (take i ys) y before holds)
