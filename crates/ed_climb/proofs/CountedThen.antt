-- How many members each buffer has once the moves are made.
use Rattle.std.proofs.Common.{◌≡◌, ℕ, ◌-◌, ◌<◌, List, [], ◌∷◌, ◌++◌, length, map, fold, Option, Some, None, refl, sym, ap, ◌∙◌, arith, length-append}
use Rattle.std.specs.Prelude.{option_map, slice_get, unwrap_or}
use Rattle.std.specs.Option.{option_map_or}
use Rattle.std.specs.List.{AllByRecursion as Each}
use Rattle.ed_layers.specs.Records.{Record, base, members_of}
use Rattle.ed_stock.specs.Stock.{Stock, Buffer, buffer}
use Rattle.ed_risen.specs.Counting.{member_count}
use Rattle.ed_held.specs.declared.held.Held.{Held}
use Rattle.ed_held.specs.declared.moves.Move.{Move}
use Rattle.ed_held.specs.Making.{known_grown}
use Rattle.ed_held.specs.Moves.{AreApart, move_of, record_of, with_move}
use Rattle.ed_held.specs.Seen.{Known, known, last_of, stock}
use Rattle.ed_climb.specs.Group.{known_moved}
use Rattle.ed_climb.specs.Limited.{count_now, count_then}
use Rattle.ed_risen.proofs.Growth.{missing, push_here}
use Rattle.ed_risen.proofs.Lists.{get_map, got}
use Rattle.ed_climb.proofs.Committed.{stock_folded}
use Rattle.ed_climb.proofs.Leaving.{grown_by, moved_at}

last_push : (xs : List Record) (x d : Record) → unwrap_or (slice_get (xs ++ x ∷ []) (length (xs ++ x ∷ []) - 1)) d ≡ x
last_push xs x d =
    let n : length (xs ++ x ∷ []) - 1 ≡ length xs = omega (arith, length-append xs (x ∷ [])) in
    ap (λ k. unwrap_or (slice_get (xs ++ x ∷ []) k) d) n ∙ ap (λ o. unwrap_or o d) (push_here xs x)

module _ (hs : List Held) (ms : List Move) (apart : AreApart ms) where
  abbrev ks : List Known
  ks = fold known_moved (map known hs) ms

  -- a buffer once the moves are made
  buffer_then : (b : ℕ) (h : Held) → slice_get hs b ≡ Some h → buffer (fold with_move (stock hs) ms) b ≡ (grown_by ms b (known h)).buffer
  buffer_then b h is =
      let k : slice_get ks b ≡ Some (grown_by ms b (known h)) = moved_at ms (map known hs) b apart ∙ ap (option_map (grown_by ms b)) (get_map known hs b h is) in
      ap (λ (y : Stock). buffer y b) (sym (stock_folded (map known hs) ms)) ∙ ap (λ o. unwrap_or o missing) (get_map (λ (x : Known). x.buffer) ks b (grown_by ms b (known h)) k)

  count_is : (b : ℕ) (h : Held) → slice_get hs b ≡ Some h → member_count (fold with_move (stock hs) ms) b ≡ count_then hs ms b
  count_is b h is = ap (λ (y : Buffer). length (members_of (last_of y))) (buffer_then b h is) ∙ by (move_of ms b)
    where
      by : (o : Option Move) → length (members_of (last_of (option_map_or (λ m. known_grown (known h) m) o (known h)).buffer)) ≡ option_map_or (λ m. length (members_of (record_of m.planned))) o (count_now hs b)
      by None = ap (λ o. option_map_or (λ (x : Held). length (members_of (last_of (known x).buffer))) o 0) (sym is)
      by (Some m) = ap (λ r. length (members_of r)) (last_push (known h).buffer.records (record_of m.planned) (base [] 0))

  pub counts_are : (order : List ℕ) → Each (λ b. b < length hs) order → map (member_count (fold with_move (stock hs) ms)) order ≡ map (count_then hs ms) order
  counts_are [] h = refl
  counts_are (b ∷ bs) h =
      let x : (h : Held) × (slice_get hs b ≡ Some h) = got hs b h.0 in
      ap (λ n. n ∷ map (member_count (fold with_move (stock hs) ms)) bs) (count_is b x.0 x.1) ∙ ap (λ ns. count_then hs ms b ∷ ns) (counts_are bs h.1)
