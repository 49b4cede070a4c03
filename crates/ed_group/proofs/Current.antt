-- A buffer as it is now.
use Rattle.std.proofs.Common.{◌≡◌, ℕ, zero, suc, ◌<◌, List, [], ◌∷◌, length, map, Option, Some, None, refl, arith}
use Rattle.std.specs.Prelude.{slice_get}
use Rattle.ed_climb.specs.Kept.{IsKept}
use Rattle.ed_climb.specs.Route.{newest}
use Rattle.ed_climb.specs.declared.counts.Counts.{Counts}
use Rattle.ed_climb.proofs.KeptNumbers.{held_count, held_len}
use Rattle.ed_climb.proofs.Snapshots.{snapshot_is}
use Rattle.ed_held.specs.Moves.{snapshot_now}
use Rattle.ed_held.specs.Seen.{known, stock}
use Rattle.ed_held.specs.declared.held.Held.{Held}
use Rattle.ed_stock.specs.Stock.{count}

-- there is something at each place of a list
pub past : (xs : List Held) (i : ℕ) → slice_get xs i ≡ None → i < length xs → ⊥
past [] i e l = absurd (omega arith)
past (x ∷ xs) zero e l = absurd (cc)
past (x ∷ xs) (suc i) e l = past xs i e (omega arith)

module _ (hs : List Held) (graph : List (List ℕ)) (counts : Counts) (kept : IsKept (map known hs) graph counts) (b : ℕ) (there : b < count (stock hs)) where
  pub is_held : b < length hs
  is_held = let a : length graph ≡ length hs = held_len hs graph counts kept in let b : length graph ≡ count (stock hs) = held_count hs graph counts kept in omega (arith, there)

  pub current : snapshot_now hs b ≡ newest (stock hs) b
  current = by (slice_get hs b) refl
    where
      by : (o : Option Held) → slice_get hs b ≡ o → snapshot_now hs b ≡ newest (stock hs) b
      by None is = absurd (past hs b is is_held)
      by (Some h) is = snapshot_is hs (record { numbered = kept.numbered; texts = kept.texts }) kept.settled b h is there
