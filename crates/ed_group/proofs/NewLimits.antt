-- The limits of a stock with one buffer more.
use Rattle.std.proofs.Common.{◌≡◌, ◌≢◌, ℕ, ◌+◌, ◌<◌, ◌^◌, true, List, [], ◌∷◌, ◌++◌, length, map, Option, None, sym, ◌∙◌, ap, arith}
use Rattle.std.proofs.lemmas.Bool.{ltb-false}
use Rattle.std.specs.Prelude.{nat_lt}
use Rattle.std.proofs.lemmas.List.{length-map}
use Rattle.ed_base.specs.declared.refusal.Refusal.{Refusal}
use Rattle.ed_base.specs.declared.refusal.Which.{Which}
use Rattle.ed_base.specs.Numbers.{first_some, is_among, or_else}
use Rattle.ed_layers.specs.Records.{Record, members_of}
use Rattle.ed_stock.specs.Limits.{inserted, versions, placements, some_over, stock_limits}
use Rattle.ed_stock.specs.Stock.{Stock, count, graph_order, record_now, text_now}
use Rattle.ed_climb.specs.declared.counts.Counts.{Counts}
use Rattle.ed_climb.specs.Limited.{new_limit, passed}
use Rattle.ed_risen.specs.Rising.{IsSettled}
use Rattle.ed_held.specs.Seen.{Known, stock_of}
use Rattle.ed_risen.proofs.Counting.{new_buffer}
use Rattle.ed_risen.proofs.Growth.{grown_record_now, grown_record_other}
use Rattle.ed_risen.proofs.Order.{in_order, of_order}
use Rattle.ed_risen.proofs.Lists.{or_else_none}
use Rattle.ed_group.proofs.NewBuffer.{count_more, new_grows, text_now_stays}
use Rattle.ed_risen.proofs.OneLimit.{each_none, none_of, none_past, only_over}

-- ---- the new buffer

module _ (ks : List Known) (k : Known) (r : Record) (resolver : Option (List ℕ)) (buffer_is : k.buffer ≡ new_buffer r resolver) (settled : IsSettled (stock_of ks)) (within : first_some (stock_limits (stock_of ks)) ≡ None) where
  abbrev s : Stock
  s = stock_of ks

  abbrev t : Stock
  t = stock_of (ks ++ k ∷ [])

  abbrev n : ℕ
  n = length ks

  abbrev units_at : Stock → ℕ → ℕ
  units_at x b = length (text_now x b)

  abbrev members_at : Stock → ℕ → ℕ
  members_at x b = length (members_of (record_now x b))

  count_is : count s ≡ n
  count_is = length-map ks (λ (x : Known). x.buffer)

  old_units : some_over Which.Units (2 ^ 22) (map (units_at s) (graph_order s)) ≡ None
  old_units = (each_none (stock_limits s) within).1.0

  old_members : some_over Which.Members 1024 (map (members_at s) (graph_order s)) ≡ None
  old_members = (each_none (stock_limits s) within).1.1.1.1.0

  old_one : (c : ℕ) → is_among c (graph_order t) ≡ true → c ≢ n → c < n
  old_one c i ne = let l : c < count t = of_order t c i in let e : count t ≡ n + 1 = count_more ks k r resolver buffer_is in omega arith

  new_one : is_among n (graph_order t) ≡ true
  new_one = in_order t n (let e : count t ≡ n + 1 = count_more ks k r resolver buffer_is in omega arith)

  units_new : some_over Which.Units (2 ^ 22) (map (units_at t) (graph_order t)) ≡ passed Which.Units (2 ^ 22) (units_at t n)
  units_new = only_over Which.Units (2 ^ 22) (units_at t) n (graph_order t) new_one (λ c ne i.
      let l : c < n = old_one c i ne in
      ltb-false (2 ^ 22) (units_at t c) (ap (λ x. nat_lt (2 ^ 22) (length x)) (text_now_stays ks k r resolver buffer_is settled c l)
      ∙ none_past (2 ^ 22) (units_at s) (graph_order s) c (none_of Which.Units (2 ^ 22) (map (units_at s) (graph_order s)) old_units) (in_order s c (let e : count s ≡ n = count_is in omega arith))))

  members_new : some_over Which.Members 1024 (map (members_at t) (graph_order t)) ≡ passed Which.Members 1024 (length (members_of r))
  members_new = only_over Which.Members 1024 (members_at t) n (graph_order t) new_one (λ c ne i.
      let l : c < n = old_one c i ne in
      ltb-false 1024 (members_at t c) (ap (λ x. nat_lt 1024 (length (members_of x))) (grown_record_other s t n r (new_grows ks k r resolver buffer_is) c ne)
      ∙ none_past 1024 (members_at s) (graph_order s) c (none_of Which.Members 1024 (map (members_at s) (graph_order s)) old_members) (in_order s c (let e : count s ≡ n = count_is in omega arith))))
      ∙ ap (λ x. passed Which.Members 1024 (length (members_of x))) (grown_record_now s t n r (new_grows ks k r resolver buffer_is))

  pub limits_new : (counts : Counts) → counts.inserted ≡ inserted t → counts.versions ≡ versions t → counts.placements ≡ placements t → first_some (stock_limits t) ≡ new_limit (n + 1) (units_at t n) counts (length (members_of r))
  limits_new counts i v p =
      whole (passed Which.Buffers 64 (count t)) (some_over Which.Units (2 ^ 22) (map (units_at t) (graph_order t))) (passed Which.Inserted (2 ^ 27) (inserted t)) (passed Which.Versions (2 ^ 18) (versions t)) (some_over Which.Members 1024 (map (members_at t) (graph_order t))) (passed Which.Placements (2 ^ 26) (placements t))
      (passed Which.Buffers 64 (n + 1)) (passed Which.Units (2 ^ 22) (units_at t n)) (passed Which.Inserted (2 ^ 27) counts.inserted) (passed Which.Versions (2 ^ 18) counts.versions) (passed Which.Members 1024 (length (members_of r))) (passed Which.Placements (2 ^ 26) counts.placements)
      (ap (passed Which.Buffers 64) (count_more ks k r resolver buffer_is)) units_new (ap (passed Which.Inserted (2 ^ 27)) (sym i)) (ap (passed Which.Versions (2 ^ 18)) (sym v)) members_new (ap (passed Which.Placements (2 ^ 26)) (sym p))
    where
      whole : (a b c d e f a' b' c' d' e' f' : Option Refusal) → a ≡ a' → b ≡ b' → c ≡ c' → d ≡ d' → e ≡ e' → f ≡ f' → first_some (a ∷ b ∷ c ∷ d ∷ e ∷ f ∷ []) ≡ first_some (a' ∷ first_some (b' ∷ c' ∷ d' ∷ e' ∷ f' ∷ []) ∷ [])
      whole a b c d e f a' b' c' d' e' f' h1 h2 h3 h4 h5 h6 = rw (h1, h2, h3, h4, h5, h6) (ap (or_else a') (sym (or_else_none (first_some (b' ∷ c' ∷ d' ∷ e' ∷ f' ∷ [])))))
