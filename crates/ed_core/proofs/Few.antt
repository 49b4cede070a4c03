-- Where buffers have few regions, and where one has too many.
use Rattle.std.proofs.Common.{◌≡◌, ℕ, ◌≤◌, ◌^◌, List, length, Option, None, refl, sym, ◌∙◌, ap, subst, arith}
use Rattle.ed_base.specs.Denial.{Region}
use Rattle.ed_layers.specs.Records.{Record}
use Rattle.ed_stock.specs.Stock.{Stock, empty_stock}
use Rattle.ed_stock.specs.Making.{with_new}
use Rattle.ed_core.specs.Within.{HasFewRegions, IsWithin}
use Rattle.ed_core.specs.Keeping.{Keeps}
use Rattle.ed_core.proofs.Lists.{at-set, at-append}
use Rattle.ed_core.proofs.Regions.{after, changed}
use Rattle.ed_base.specs.Numbers.{first_some}
use Rattle.ed_layers.specs.Graph.{graph_order}
use Rattle.ed_stock.specs.Limits.{stock_limits}

pub few-empty : HasFewRegions empty_stock
few-empty = record { live = λ b. omega arith; given = λ b. omega arith }

pub few-kept : (s t : Stock) → Keeps s t → HasFewRegions s → HasFewRegions t
few-kept s t keeps few = record {
  live = λ b. subst (λ n. n ≤ 1024) (sym (keeps.regions b).live) (few.live b);
  given = λ b. subst (λ n. n ≤ 2 ^ 20) (sym (keeps.regions b).given) (few.given b);
}

pub few-new : (s : Stock) (r : Record) (resolver : Option (List ℕ)) → HasFewRegions s → HasFewRegions (with_new s r resolver)
few-new s r resolver few = record {
  live = λ b. at-append (λ x. length x.regions ≤ 1024) s.buffers _ _ (omega arith) (omega arith) few.live b;
  given = λ b. at-append (λ x. x.regions_given ≤ 2 ^ 20) s.buffers _ _ (omega arith) (omega arith) few.given b;
}

pub few-after : (s : Stock) (b : ℕ) (rs : List Region) (n : ℕ) → HasFewRegions s → length rs ≤ 1024 → n ≤ 2 ^ 20 → HasFewRegions (after s b rs n)
few-after s b rs n few live given = record {
  live = λ c. at-set (λ k x. length x.regions ≤ 1024) s.buffers b (changed s b rs n) _ live few.live c;
  given = λ c. at-set (λ k x. x.regions_given ≤ 2 ^ 20) s.buffers b (changed s b rs n) _ given few.given c;
}

none-empty : first_some (stock_limits empty_stock) ≡ None
unfolding graph_order
none-empty = refl

pub within-empty : (s : Stock) (names : List (List ℕ)) → s ≡ empty_stock → IsWithin (record { stock = s; names = names; answered = 0 })
within-empty s names e = record { stock = ap (λ t. first_some (stock_limits t)) e ∙ none-empty; regions = subst HasFewRegions (sym e) few-empty; answered = omega arith }
