-- The limits of a stock that a group leaves.
use Rattle.std.proofs.Common.{◌≡◌, ◌^◌, List, [], ◌∷◌, length, map, Option, None, refl, sym, ap}
use Rattle.ed_base.specs.declared.Refusal.{Refusal}
use Rattle.ed_base.specs.declared.Which.{Which}
use Rattle.ed_base.specs.Numbers.{first_some}
use Rattle.ed_stock.specs.Limits.{inserted, over, placements, some_over, stock_limits, versions}
use Rattle.ed_stock.specs.Stock.{Stock, count, graph_order, text_now}
use Rattle.ed_climb.specs.Counted.{AreCounts}
use Rattle.ed_climb.specs.declared.counts.Counts.{Counts}
use Rattle.ed_climb.specs.Limited.{limit_of, passed}
use Rattle.ed_held.specs.Seen.{Known, stock_of}
use Rattle.ed_risen.specs.Counting.{member_count}
use Rattle.ed_climb.proofs.KeptNumbers.{few}

-- ---- the numbers

module _ (ks : List Known) (counts : Counts) (are : AreCounts counts (stock_of ks)) where
  abbrev t : Stock
  t = stock_of ks

  pub limits_are : (units members : Option Refusal) → over Which.Buffers 64 (count t) ≡ None → some_over Which.Units (2 ^ 22) (map (λ b. length (text_now t b)) (graph_order t)) ≡ units
      → some_over Which.Members 1024 (map (member_count t) (graph_order t)) ≡ members → first_some (stock_limits t) ≡ limit_of units counts members
  limits_are units members few us ms =
      whole (over Which.Buffers 64 (count t)) (some_over Which.Units (2 ^ 22) (map (λ b. length (text_now t b)) (graph_order t))) (over Which.Inserted (2 ^ 27) (inserted t)) (over Which.Versions (2 ^ 18) (versions t)) (some_over Which.Members 1024 (map (member_count t) (graph_order t))) (over Which.Placements (2 ^ 26) (placements t))
      units (passed Which.Inserted (2 ^ 27) counts.inserted) (passed Which.Versions (2 ^ 18) counts.versions) members (passed Which.Placements (2 ^ 26) counts.placements)
      few us (ap (passed Which.Inserted (2 ^ 27)) (sym are.inserted)) (ap (passed Which.Versions (2 ^ 18)) (sym are.versions)) ms (ap (passed Which.Placements (2 ^ 26)) (sym are.placements))
    where
      whole : (a b c d e f b' c' d' e' f' : Option Refusal) → a ≡ None → b ≡ b' → c ≡ c' → d ≡ d' → e ≡ e' → f ≡ f' → first_some (a ∷ b ∷ c ∷ d ∷ e ∷ f ∷ []) ≡ first_some (b' ∷ c' ∷ d' ∷ e' ∷ f' ∷ [])
      whole a b c d e f b' c' d' e' f' h1 h2 h3 h4 h5 h6 = rw (h1, h2, h3, h4, h5, h6) refl
