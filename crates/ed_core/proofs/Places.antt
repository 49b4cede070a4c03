-- The length of a text that passes no limit.
use Rattle.std.proofs.Common.{◌≡◌, ℕ, ◌<◌, ◌≤◌, ◌^◌, true, List, [], ◌∷◌, length, map, nat_eq, Option, Some, None, refl, inl, inr, eqb-true, subst, sym, ap, ◌∙◌, nat_lt, ltb-false}
use Rattle.std.proofs.lemmas.Bool.{cases_Bool}
use Rattle.ed_base.specs.declared.refusal.Refusal.{Refusal}
use Rattle.ed_base.specs.declared.refusal.Which.{Which}
use Rattle.ed_base.specs.Numbers.{first_some, is_among}
use Rattle.ed_graph.proofs.Lists.{or_cases}
use Rattle.ed_layers.specs.Records.{members_of}
use Rattle.ed_stock.specs.Limits.{over, some_over, stock_limits, inserted, versions, placements}
use Rattle.ed_stock.specs.Stock.{Stock, count, now, text_at, text_now, record_now, graph_order}
use Rattle.ed_core.proofs.Orders.{among-order}

none-over : (which : Which) (most : ℕ) (f : ℕ → ℕ) (b : ℕ) (bs : List ℕ) → some_over which most (map f bs) ≡ None → is_among b bs ≡ true → f b ≤ most
none-over which most f b [] none there = absurd (cc)
none-over which most f b (c ∷ bs) none there = elim (cases_Bool (nat_lt most (f c))) [
  | inl t ↦ absurd (let some : some_over which most (map f (c ∷ bs)) ≡ Some (Refusal.Limit which (f c)) = rw t refl in cc)
  | inr f' ↦ elim (or_cases (nat_eq b c) (is_among b bs) there) [
    | inl here ↦ (let same : b ≡ c = eqb-true b c here in let few : f c ≤ most = ltb-false most (f c) f' in subst (λ k. f k ≤ most) (sym same) few)
    | inr further ↦ none-over which most f b bs (rw f' at none) further
  ]
]

second-none : (a b : Option Refusal) (os : List (Option Refusal)) → first_some (a ∷ b ∷ os) ≡ None → b ≡ None
second-none None None os e = refl
second-none None (Some r) os e = absurd (cc)
second-none (Some r) b os e = absurd (cc)

pub few-units : (s : Stock) (b : ℕ) → first_some (stock_limits s) ≡ None → b < count s → length (text_now s b) ≤ 2 ^ 22
few-units s b within there =
    none-over Which.Units (2 ^ 22) (λ c. length (text_now s c)) b (graph_order s)
    (second-none (over Which.Buffers s.most_buffers (count s)) (some_over Which.Units (2 ^ 22) (map (λ c. length (text_now s c)) (graph_order s))) (over Which.Inserted (2 ^ 27) (inserted s) ∷ over Which.Versions s.most_versions (versions s) ∷ some_over Which.Members 1024 (map (λ c. length (members_of (record_now s c))) (graph_order s)) ∷ over Which.Placements (2 ^ 26) (placements s) ∷ []) within) (among-order _ (count s) b there)

-- the same of a length that was found
pub few-len : (s : Stock) (b n m : ℕ) → first_some (stock_limits s) ≡ None → b < count s → n ≡ now s b → m ≡ length (text_at s b n) → m ≤ 2 ^ 22
few-len s b n m within there current is = subst (λ k. k ≤ 2 ^ 22) (ap (λ v. length (text_at s b v)) (sym current) ∙ sym is) (few-units s b within there)
