-- The pass over sorted pieces gives what arrives.
use Rattle.std.proofs.Common.{◌≡◌, ℕ, zero, suc, ◌+◌, ◌-◌, ◌<◌, ◌≤◌, max, Bool, true, false, nat_eq, nat_le, nat_lt, ◌&&◌, List, [], ◌∷◌, ◌++◌, length, map, get_or, replicate, refl, sym, ◌∙◌, arith, if◌then◌else◌, inl, inr}
use Rattle.std.specs.List.{All}
use Rattle.std.specs.List.Sorted.{IsNonDecreasingBy}
use Rattle.std.proofs.lemmas.List.{length-replicate, length-map, get_or-map}
use Rattle.std.proofs.lemmas.List.Sorted.{list_any-IsPermutation, All-permutation}
use Rattle.std.proofs.lemmas.Bool.{cases_Bool}
use denote.Ref.{Bor}
use Rattle.ed_base.specs.declared.piece.Piece.{Piece}
use Rattle.ed_layers.specs.Pieces as pieces
use Rattle.ed_layers.specs.Pieces.{Component, put_at, gone_at, marked_text, piece_origins, arrived, marked_units, unmarked}
use Rattle.ed_pieces.specs.Arrivals.{AllWithin, component_if, sweep}
use Rattle.ed_pieces.specs.Order.{text_at, AreInOrder}
use Rattle.ed_pieces.proofs.Parts.{Units, forth, parts, forth_parts}
use Rattle.ed_pieces.proofs.SortedParts.{RisesFrom, parts_same, sweep_all}

rises_after : (p n : ℕ) (rs : List Piece) → RisesFrom 0 n rs → ((d : Piece) → 0 < length rs → p ≤ (get_or rs 0 d).start) → RisesFrom p n rs
rises_after p n [] h l = tt
rises_after p n (r ∷ rs) h l = (l r (omega arith), h.1, h.2)

rises_sorted : (n : ℕ) (rs : List Piece) → IsNonDecreasingBy (λ r. r.start) rs → AllWithin n rs → RisesFrom 0 n rs
rises_sorted n [] h w = tt
rises_sorted n (r ∷ rs) h w =
    let later : RisesFrom 0 n rs = rises_sorted n rs (λ i j d le lt. h (suc i) (suc j) d (omega arith) (omega arith)) (λ k d lt. w (suc k) d (omega arith)) in
    (omega arith, w 0 r (omega arith), rises_after r.start n rs later (λ d l. h 0 1 d (omega arith) (omega arith)))

-- what arrives is the parts, for any list of that length
pub arrived_parts : {X : Type 0} (ps : List Piece) (xs : List X) → arrived ps (length xs) ≡ map forth (parts (put_at ps) (gone_at ps) 0 0 0 [] [] xs)
unfolding arrived
arrived_parts ps xs = forth_parts (put_at ps) (gone_at ps) (marked_text ps (replicate (length xs) 0)) 0 0 0 [] [] xs (map unmarked (replicate (length xs) 0)) (length xs) (length (piece_origins ps (length xs))) (length-map (replicate (length xs) 0) unmarked ∙ length-replicate (length xs) 0) refl refl (omega arith) (omega arith)

module _ (n : ℕ) (all sorted : List Piece) (order : AreInOrder all sorted) (within : AllWithin n all) where
  sorted_rises : RisesFrom 0 n sorted
  sorted_rises = rises_sorted n sorted order.rising (All-permutation (λ (r : Piece). r.start + r.len ≤ n) all sorted order.same within)

  swept_parts : {X : Type 0} (xs : List X) → length xs ≡ n → map forth (parts (put_at all) (gone_at all) 0 0 0 [] [] xs) ≡ sweep 0 0 [] sorted
  swept_parts xs e =
      let same : parts (put_at all) (gone_at all) 0 0 0 [] [] xs ≡ parts (text_at sorted) (gone_at sorted) 0 0 0 [] [] xs =
      parts_same (put_at all) (text_at sorted) (gone_at all) (gone_at sorted) 0 0 0 [] [] [] xs (λ q l. sym (order.stable q)) (λ q l. list_any-IsPermutation (λ (r : Piece). nat_le r.start q && nat_lt q (r.start + r.len)) all sorted order.same) (sym (order.stable 0)) in
      rw same (sweep_all sorted xs (rw e sorted_rises))

  pub swept_arrived : sweep 0 0 [] sorted ≡ arrived all n
  swept_arrived =
      let zeros : List ℕ = replicate n 0 in
      let e : length zeros ≡ n = length-replicate n 0 in
      let found : arrived all (length zeros) ≡ sweep 0 0 [] sorted = arrived_parts all zeros ∙ swept_parts zeros e in
      sym (rw e at found)

-- the pieces as the pass takes them
pub lent_within : (m n : ℕ) (all : List Piece) (xs : List (Bor Piece)) → AreInOrder all (map (λ b. b.now) xs) → AllWithin n all → n < m → All (λ b. b.now.start + b.now.len < m) xs
lent_within m n all xs order within l k d lt =
    let len : length (map (λ b. b.now) xs) ≡ length xs = length-map xs _ in
    let w : AllWithin n (map (λ b. b.now) xs) = All-permutation (λ (r : Piece). r.start + r.len ≤ n) all (map (λ b. b.now) xs) order.same within in
    let h : (get_or xs k d).now.start + (get_or xs k d).now.len ≤ n = rw (get_or-map (λ (b : Bor Piece). b.now) xs k d d.now lt) at (w k d.now (omega arith)) in
    omega arith

-- each component of the pass ends within the text
if_within : (i e n : ℕ) (text : Units) → i ≤ e → e ≤ n → All (λ (c : Component). c.start + c.old_len ≤ n) (component_if i e text)
if_within i e n [] l m k d lt = either (nat_eq i e) k d lt
  where
    either : (b : Bool) → All (λ (c : Component). c.start + c.old_len ≤ n) (if b then [] else pieces.component i (e - i) [] ∷ [])
    either true k d lt = absurd (omega arith)
    either false zero d lt = omega arith
    either false (suc k) d lt = absurd (omega arith)
if_within i e n (u ∷ us) l m zero d lt = omega arith
if_within i e n (u ∷ us) l m (suc k) d lt = absurd (omega arith)

both_within : (n : ℕ) (cs ds : List Component) → All (λ (c : Component). c.start + c.old_len ≤ n) cs → All (λ (c : Component). c.start + c.old_len ≤ n) ds → All (λ (c : Component). c.start + c.old_len ≤ n) (cs ++ ds)
both_within n [] ds h g k d lt = g k d lt
both_within n (c ∷ cs) ds h g zero d lt = h 0 d (omega arith)
both_within n (c ∷ cs) ds h g (suc k) d lt = both_within n cs ds (λ j d l. h (suc j) d (omega arith)) g k d (omega arith)

sweep_within : (n p i e : ℕ) (text : Units) (rs : List Piece) → RisesFrom p n rs → i ≤ e → e ≤ n → All (λ (c : Component). c.start + c.old_len ≤ n) (sweep i e text rs)
sweep_within n p i e text [] h l m = if_within i e n text l m
sweep_within n p i e text (r ∷ rs) h l m =
    let high : r.start + r.len ≤ n = h.1 in
    elim (cases_Bool (nat_le r.start e)) [
      | inl t ↦ rw t (sweep_within n r.start i (max e (r.start + r.len)) (text ++ marked_units r) rs h.2 (omega arith) (omega arith))
      | inr f ↦ rw f (both_within n (component_if i e text) (sweep r.start (r.start + r.len) (marked_units r) rs) (if_within i e n text l m) (sweep_within n r.start r.start (r.start + r.len) (marked_units r) rs h.2 (omega arith) high))
    ]

pub swept_within : (n : ℕ) (all sorted : List Piece) → AreInOrder all sorted → AllWithin n all → All (λ (c : Component). c.start + c.old_len ≤ n) (sweep 0 0 [] sorted)
swept_within n all sorted order within = sweep_within n 0 0 0 [] sorted (sorted_rises n all sorted order within) (omega arith) (omega arith)
