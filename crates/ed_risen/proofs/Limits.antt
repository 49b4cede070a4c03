-- What is so of a stock within its limits.
use Rattle.std.proofs.Common.{◌≡◌, ℕ, ◌<◌, ◌≤◌, ◌^◌, false, length, map, None, ap, ◌∙◌, subst, le-ltb}
use Rattle.std.specs.Prelude.{nat_lt, option_map}
use Rattle.std.proofs.lemmas.Bool.{ltb-false}
use Rattle.ed_base.specs.declared.Refusal.{Refusal}
use Rattle.ed_base.specs.declared.Which.{Which}
use Rattle.ed_base.specs.Numbers.{first_some}
use Rattle.ed_stock.specs.Limits.{over, some_over, stock_limits}
use Rattle.ed_stock.specs.Stock.{Stock, count, graph_order, text_now}
use Rattle.ed_risen.specs.Counting.{member_count}
use Rattle.ed_risen.proofs.OneLimit.{all_within, each_none, none_of, none_past}
use Rattle.ed_risen.proofs.Order.{in_order, of_order}

pub units_fit : (t : Stock) → ((c : ℕ) → c < count t → length (text_now t c) ≤ 2 ^ 22) → some_over Which.Units (2 ^ 22) (map (λ b. length (text_now t b)) (graph_order t)) ≡ None
units_fit t fits = ap (option_map (Refusal.Limit Which.Units)) (all_within (2 ^ 22) (λ b. length (text_now t b)) (graph_order t) (λ c i. le-ltb (2 ^ 22) (length (text_now t c)) (fits c (of_order t c i))))

pub members_fit : (s t : Stock) → count t ≡ count s → some_over Which.Members 1024 (map (member_count s) (graph_order s)) ≡ None → ((c : ℕ) → c < count s → member_count t c ≡ member_count s c)
    → some_over Which.Members 1024 (map (member_count t) (graph_order t)) ≡ None
members_fit s t same old as_many =
    ap (option_map (Refusal.Limit Which.Members)) (all_within 1024 (member_count t) (graph_order t) (λ c i.
    let there : c < count s = subst (λ n. c < n) same (of_order t c i) in
    ap (nat_lt 1024) (as_many c there) ∙ none_past 1024 (member_count s) (graph_order s) c (none_of Which.Members 1024 (map (member_count s) (graph_order s)) old) (in_order s c there)))

-- what is so of a stock within its limits
module _ (s : Stock) (within : first_some (stock_limits s) ≡ None) where
  pub few_buffers : over Which.Buffers s.most_buffers (count s) ≡ None
  few_buffers = (each_none (stock_limits s) within).0

  pub short_texts : (c : ℕ) → c < count s → nat_lt (2 ^ 22) (length (text_now s c)) ≡ false
  short_texts c there = none_past (2 ^ 22) (λ b. length (text_now s b)) (graph_order s) c (none_of Which.Units (2 ^ 22) (map (λ b. length (text_now s b)) (graph_order s)) (each_none (stock_limits s) within).1.0) (in_order s c there)

  pub few_members : some_over Which.Members 1024 (map (member_count s) (graph_order s)) ≡ None
  few_members = (each_none (stock_limits s) within).1.1.1.1.0

  -- no text is too long
  pub texts_fit : (c : ℕ) → c < count s → length (text_now s c) ≤ 2 ^ 22
  texts_fit c there = ltb-false (2 ^ 22) (length (text_now s c)) (short_texts c there)
