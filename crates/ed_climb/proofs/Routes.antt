-- The order of the graph is a way through all buffers.
use Rattle.std.proofs.Common.{◌≡◌, ℕ, zero, suc, ◌+◌, ◌-◌, ◌<◌, ◌≤◌, true, false, List, [], ◌∷◌, ◌++◌, length, map, fold, max, sym, ap, ◌∙◌, subst, inl, inr, arith}
use Rattle.std.specs.Prelude.{slice_get, unwrap_or}
use Rattle.std.specs.List.{AllByRecursion as Each, range_with_len}
use Rattle.std.proofs.lemmas.Bool.{cases_eq, cases_lt}
use Rattle.std.proofs.lemmas.List.{length-map}
use Rattle.std.proofs.lemmas.List.FromFn.{length-range_with_len}
use Rattle.ed_base.specs.Numbers.{is_among, places}
use Rattle.ed_layers.specs.Graph as layers
use Rattle.ed_layers.specs.Records.{base, sources_of}
use Rattle.ed_graph.specs.Standing.{IsLevelled, height_in, order_in, sources_in}
use Rattle.ed_graph.proofs.Fuel.{within_rounds}
use Rattle.ed_stock.specs.Stock.{Stock, count, graph_order, record_now, sources_now}
use Rattle.ed_risen.specs.Rising.{IsSettled}
use Rattle.ed_climb.specs.Route.{AllKeepTheirs, AreTrue, IsReached, IsRoute, Route}
use Rattle.ed_held.specs.Seen.{stock_of}
use Rattle.ed_risen.proofs.Growth.{missing}
use Rattle.ed_risen.proofs.Order.{Comes, order_all, order_comes}
use Rattle.ed_risen.proofs.Lists.{get_past, index_map, index_past, each_of}

-- ---- the sources that the graph has

module _ (s : Stock) (g : List (List ℕ)) (linked : g ≡ map (sources_now s) (places (count s))) where
  pub graph_len : length g ≡ count s
  graph_len = ap length linked ∙ length-map (places (count s)) (sources_now s) ∙ length-range_with_len 0 (count s)

  none_past : (b : ℕ) → count s ≤ b → sources_now s b ≡ []
  none_past b past = ap (λ o. map (λ v. v.0) (sources_of (unwrap_or (slice_get (unwrap_or o missing).records (length (unwrap_or o missing).records - 1)) (base [] 0)))) (get_past s.buffers b past)

  sources_by : (b : ℕ) → sources_in g b ≡ sources_now s b
  sources_by b = elim (cases_lt b (count s)) [
    | inl there ↦ ap (λ x. sources_in x b) linked ∙ index_map (sources_now s) 0 (count s) b there ∙ ap (sources_now s) (let e : 0 + b ≡ b = omega arith in e)
    | inr past ↦ index_past g b (subst (λ n. n ≤ b) (sym graph_len) past) ∙ sym (none_past b past)
  ]

  pub sources_same : sources_in g ≡ sources_now s
  sources_same = λ i b. sources_by b i

  pub order_same : order_in g ≡ graph_order s
  order_same = ap (λ f. layers.graph_order f (length g)) sources_same ∙ ap (layers.graph_order (sources_now s)) graph_len

-- ---- heights

max_above : (xs : List ℕ) (a : ℕ) → a ≤ fold max a xs
max_above [] a = omega arith
max_above (x ∷ xs) a = let h : max a x ≤ fold max (max a x) xs = max_above xs (max a x) in omega arith

pub greatest_above : (f : ℕ → ℕ) (p k a b : ℕ) → p ≤ b → b < p + k → f b ≤ fold max a (map f (range_with_len p k))
greatest_above f p zero a b from to = absurd (omega arith)
greatest_above f p (suc k) a b from to = elim (cases_eq b p) [
  | inl e ↦ (let h : max a (f p) ≤ fold max (max a (f p)) (map f (range_with_len (p + 1) k)) = max_above (map f (range_with_len (p + 1) k)) (max a (f p)) in let g : f b ≡ f p = ap f e in omega arith)
  | inr ne ↦ greatest_above f (p + 1) k (max a (f p)) b (omega arith) (omega arith)
]

module _ (w : Route) (g : List (List ℕ)) (len : length g ≡ count (stock_of w.before)) (sources_are : (c : ℕ) → is_among c w.start ≡ false → sources_in g c ≡ sources_now (stock_of w.before) c)
    (levelled : IsLevelled g) (heights : w.height ≡ height_in g) (true_ : AreTrue (w.before)) (settled : IsSettled (stock_of w.before)) (theirs : AllKeepTheirs (stock_of w.before) w.first (order_in g)) where
  abbrev s : Stock
  s = stock_of w.before

  shallow_at : (b : ℕ) → b < length g → height_in g b ≤ 8
  unfolding layers.greatest_height
  shallow_at b there = let h : height_in g b ≤ fold max 0 (map (height_in g) (places (length g))) = greatest_above (height_in g) 0 (length g) 0 b (omega arith) (omega arith) in omega (arith, levelled.shallow, h)

  -- each source stands lower, and before
  low_by : (passed : List ℕ) (b : ℕ) → ((c : ℕ) → c < length g → height_in g c < height_in g b → is_among c passed ≡ true) → (vs : List (ℕ × ℕ)) → Each (λ c. c < length g) (map (λ v. v.0) vs) → Each (λ c. height_in g c < height_in g b) (map (λ v. v.0) vs)
      → Each (λ v. (is_among v.0 passed ≡ true) × (v.0 < count s) × (w.height v.0 < w.height b)) vs
  low_by passed b lower [] within low = tt
  low_by passed b lower (v ∷ vs) within low =
      ((lower v.0 within.0 low.0, subst (λ n. v.0 < n) len within.0, subst (λ f. f v.0 < f b) (sym heights) low.0), low_by passed b lower vs within.1 low.1)

  route_at : (passed rest : List ℕ) (b : ℕ) → order_in g ≡ passed ++ b ∷ rest → IsReached w passed b
  route_at passed rest b split =
      let c : Comes (height_in g) (length g) 0 (length g + 1) passed b = order_comes (sources_in g) (length g) passed b rest split in
      let there : b < count s = subst (λ n. b < n) len c.there in
      record {
        there = there;
        fresh = c.fresh;
        shallow = subst (λ f. f b ≤ 8) (sym heights) (shallow_at b c.there);
        low = λ out. low_by passed b (λ d in_ below. c.lower d in_ (omega arith) below) (sources_of (record_now s b))
            (subst (Each (λ d. d < length g)) (sources_are b out) (each_of (λ d. d < length g) (sources_in g b) (levelled.within b [] c.there)))
            (subst (Each (λ d. height_in g d < height_in g b)) (sources_are b out) (each_of (λ d. height_in g d < height_in g b) (sources_in g b) (levelled.lower b)));
      }

  pub is_route : IsRoute w (order_in g)
  is_route = record { settled = settled; true = true_; reached = route_at; theirs = theirs }

  -- all buffers come
  pub all_come : (c : ℕ) → c < count s → is_among c (order_in g) ≡ true
  all_come c there = order_all (sources_in g) (length g) c (subst (λ n. c < n) (sym len) there) (within_rounds (sources_in g) (length g) (length g) c)
