-- How many buffers there are, and answers.
use Rattle.std.proofs.Common.{◌≡◌, ℕ, ◌≤◌, List, length, map, Option, Some, None, sym, ◌∙◌, ap, subst, inl, inr, refl, arith}
use Rattle.std.specs.Prelude.{Ok, Err, nat_lt}
use Rattle.std.proofs.lemmas.Bool.{cases_Bool, ltb-false}
use Rattle.std.proofs.lemmas.List.{length-map}
use Rattle.std.proofs.lemmas.List.FromFn.{length-range_with_len}
use Rattle.ed_base.specs.declared.Refusal.{Refusal}
use Rattle.ed_base.specs.declared.refusal.Which.{Which}
use Rattle.ed_base.specs.Numbers.{places}
use Rattle.ed_stock.specs.Limits.{stock_limits}
use Rattle.ed_stock.specs.Stock.{count, sources_now}
use Rattle.ed_climb.specs.declared.counts.Counts.{Counts}
use Rattle.ed_climb.specs.declared.fault.PlanFault.{PlanFault}
use Rattle.ed_climb.specs.Kept.{IsKept}
use Rattle.ed_climb.specs.Limited.{passed}
use Rattle.ed_climb.specs.Refusals.{Refuses}
use Rattle.ed_held.specs.declared.held.Held.{Held}
use Rattle.ed_held.specs.Seen.{Known, known, stock, stock_of}
use Rattle.ed_risen.proofs.OneLimit.{each_none}

-- ---- answers

pub refuses_this : (X : Type 0) (o : Option Refusal) (r : Refusal) → o ≡ Some r → Refuses {X = X} o (Err (PlanFault.Refused r))
refuses_this X o r is = subst (λ p. Refuses {X = X} p (Err (PlanFault.Refused r))) (sym is) (inl refl)

pub refuses_none : {X : Type 0} (o : Option Refusal) (x : X) → o ≡ None → Refuses o (Ok x)
refuses_none o x is = subst (λ p. Refuses p (Ok x)) (sym is) tt

pub not_passed : (which : Which) (most n : ℕ) → passed which most n ≡ None → n ≤ most
not_passed which most n h = elim (cases_Bool (nat_lt most n)) [
  | inl t ↦ absurd (let e : passed which most n ≡ Some (Refusal.Limit which n) = rw t refl in let g : Some (Refusal.Limit which n) ≡ None = sym e ∙ h in cc)
  | inr f ↦ ltb-false most n f
]

-- ---- a stock

module _ (ks : List Known) (graph : List (List ℕ)) (counts : Counts) (kept : IsKept ks graph counts) where
  pub graph_len : length graph ≡ length ks
  graph_len = ap length kept.linked ∙ length-map (places (length ks)) (sources_now (stock_of ks)) ∙ length-range_with_len 0 (length ks)

  pub count_len : count (stock_of ks) ≡ length ks
  count_len = length-map ks (λ (x : Known). x.buffer)

  pub few : length ks ≤ 64
  few = let l : count (stock_of ks) ≤ 64 = not_passed Which.Buffers 64 (count (stock_of ks)) (each_none (stock_limits (stock_of ks)) kept.within).0 in let e : count (stock_of ks) ≡ length ks = count_len in omega arith

-- ---- buffers that are held

module _ (hs : List Held) (graph : List (List ℕ)) (counts : Counts) (kept : IsKept (map known hs) graph counts) where
  pub held_len : length graph ≡ length hs
  held_len = graph_len (map known hs) graph counts kept ∙ length-map hs known

  pub held_count : length graph ≡ count (stock hs)
  held_count = graph_len (map known hs) graph counts kept ∙ sym (count_len (map known hs) graph counts kept)

  pub held_few : length graph ≤ 64
  held_few = let l : length (map known hs) ≤ 64 = few (map known hs) graph counts kept in let e : length graph ≡ length (map known hs) = graph_len (map known hs) graph counts kept in omega arith
