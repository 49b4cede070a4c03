-- A stock with a new carrier: a projection, or an elision buffer.
use Rattle.std.proofs.Common.{true, ◌≡◌, ℕ, zero, suc, ◌+◌, ◌-◌, ◌<◌, ◌≤◌, ◌^◌, List, [], ◌∷◌, ◌++◌, length, map, Option, Some, None, refl, sym, ◌∙◌, ap, subst, inl, inr, arith, length-append}
use Rattle.std.specs.Prelude.{fold, max, nat_eq, nat_lt, slice_get, slice_index_or, slice_set, unwrap_or, if◌then◌else◌}
use Rattle.std.specs.List.{AllByRecursion as Each}
use Rattle.std.proofs.lemmas.Bool.{cases_eq, cases_lt, eq-eqb, ne_eqb}
use Rattle.std.proofs.lemmas.List.{length-map}
use Rattle.ed_base.specs.declared.Refusal.{Refusal}
use Rattle.ed_base.specs.declared.refusal.Which.{Which}
use Rattle.ed_base.specs.Numbers.{first_some, places}
use Rattle.ed_graph.specs.Standing.{IsLevelled, height_in, linked, sources_in as graph_sources}
use Rattle.ed_layers.specs.Graph as order
use Rattle.ed_layers.specs.Records.{Record, base, is_carrier, members_len, members_of, sources_of}
use Rattle.ed_layers.specs.Texts.{text_over}
use Rattle.ed_stock.specs.Limits.{inserted, versions, placements, stock_limits}
use Rattle.ed_stock.specs.Linking.{depth}
use Rattle.ed_stock.specs.Making.{with_new}
use Rattle.ed_stock.specs.Stock.{Stock, buffer, count, now, record_at, record_now, sources_now, text_at}
use Rattle.ed_climb.specs.declared.counts.Counts.{Counts}
use Rattle.ed_held.specs.declared.held.Held.{Held}
use Rattle.ed_risen.specs.Founded.{Founded}
use Rattle.ed_risen.specs.Growing.{Grows}
use Rattle.ed_climb.specs.Kept.{IsKept}
use Rattle.ed_climb.specs.Limited.{new_limit}
use Rattle.ed_group.specs.Placed.{too_deep}
use Rattle.ed_risen.specs.Counting.{tracked_in}
use Rattle.ed_risen.specs.Rising.{EndsIn, Inside, IsNow, IsSettled}
use Rattle.ed_held.specs.Seen.{Known, known, stock, stock_of}
use Rattle.ed_group.proofs.Based.{new_first}
use Rattle.ed_climb.proofs.KeptNumbers.{count_len, graph_len, not_passed}
use Rattle.ed_risen.proofs.Counting.{inserted_new_carrier, new_buffer, placements_new, versions_new}
use Rattle.ed_risen.proofs.NextRecords.{fits_named, grown_carrier_text}
use Rattle.ed_risen.proofs.ShownRuns.{stands}
use Rattle.ed_risen.proofs.FoundedLemmas.{each_weaker, founded_of}
use Rattle.ed_risen.proofs.Growth.{missing}
use Rattle.ed_risen.proofs.Lengths.{Fits, length_text_over}
use Rattle.ed_risen.proofs.Lists.{get_past, index_map, index_past, each_of}
use Rattle.ed_group.proofs.NewBuffer.{map_push, named_there, new_kept, new_grows, new_stock}
use Rattle.ed_risen.proofs.OneLimit.{each_none}
use Rattle.ed_group.proofs.NewLimits.{limits_new}
use Rattle.ed_risen.proofs.RisingLemmas.{get_last}
use Rattle.ed_climb.proofs.Routes.{greatest_above}
use Rattle.ed_risen.proofs.Texts.{named_text}

-- ---- heights

module _ (s : Stock) (g : List (List ℕ)) (n : ℕ) (levelled : IsLevelled g) (settled : IsSettled s) (n_is : count s ≡ n)
    (sources_are : (b : ℕ) → b < n → graph_sources g b ≡ sources_now s b) (named : (b : ℕ) → b < n → Each (λ v. v.0 < n) (sources_of (record_now s b))) where
  below : (k b : ℕ) → ((c : ℕ) → c < n → height_in g c < k → Founded (record_at s) k (c, now s c)) → (vs : List (ℕ × ℕ)) → height_in g b ≤ k → Each (IsNow s) vs → Each (λ c. height_in g c < height_in g b) (map (λ v. v.0) vs) → Each (λ v. v.0 < n) vs → Each (Founded (record_at s) k) vs
  below k b deep [] h c l t = tt
  below k b deep (v ∷ vs) h c l t =
      (subst (λ w. Founded (record_at s) k (v.0, w)) (sym c.0) (deep v.0 t.0 (let a : height_in g v.0 < height_in g b = l.0 in omega arith)), below k b deep vs h c.1 l.1 t.1)

  shallow : (k b : ℕ) → b < n → height_in g b < k → Founded (record_at s) k (b, now s b)
  shallow zero b there h = absurd (omega arith)
  shallow (suc k) b there h =
      founded_of (record_at s) k (b, now s b) (record_now s b) (get_last (buffer s b).records (settled.some b (omega (arith, n_is))) (base [] 0))
      (below k b (shallow k) (sources_of (record_now s b)) (omega arith) (settled.current b (omega (arith, n_is)))
      (subst (Each (λ c. height_in g c < height_in g b)) (sources_are b there) (each_of (λ c. height_in g c < height_in g b) (graph_sources g b) (levelled.lower b))) (named b there))

-- ---- lists

index_push_old : (xs : List (List ℕ)) (x : List ℕ) (b : ℕ) → b < length xs → slice_index_or (xs ++ x ∷ []) b [] ≡ slice_index_or xs b []
index_push_old [] x b h = absurd (omega arith)
index_push_old (y ∷ ys) x zero h = refl
index_push_old (y ∷ ys) x (suc b) h = index_push_old ys x b (omega arith)

index_push_here : (xs : List (List ℕ)) (x : List ℕ) (b : ℕ) → b ≡ length xs → slice_index_or (xs ++ x ∷ []) b [] ≡ x
index_push_here [] x zero h = refl
index_push_here [] x (suc b) h = absurd (omega arith)
index_push_here (y ∷ ys) x zero h = absurd (omega arith)
index_push_here (y ∷ ys) x (suc b) h = index_push_here ys x b (omega arith)

set_last : (xs : List (List ℕ)) (x y : List ℕ) → slice_set (xs ++ x ∷ []) (length xs) y ≡ xs ++ y ∷ []
set_last [] x y = refl
set_last (z ∷ zs) x y = ap (λ rest. z ∷ rest) (set_last zs x y)

firsts : (f : ℕ → ℕ) (xs : List ℕ) → map (λ (v : ℕ × ℕ). v.0) (map (λ b. (b, f b)) xs) ≡ xs
firsts f [] = refl
firsts f (x ∷ xs) = ap (λ rest. x ∷ rest) (firsts f xs)

-- ---- the new buffer

abbrev pub units_new : Stock → Record → List ℕ
units_new s r = text_over (named_text (record_at s) (sources_of r)) (members_of r)

abbrev pub carrier_new : List Known → Record → Option (List ℕ) → Known
carrier_new ks r resolver = record { number = length ks; buffer = new_buffer r resolver; texts = units_new (stock_of ks) r ∷ [] }

abbrev pub counts_with : Counts → ℕ → Counts
counts_with counts follow = record { inserted = counts.inserted + 0; versions = counts.versions + 1; placements = counts.placements + follow }

stock_with : (ks : List Known) (r : Record) (resolver : Option (List ℕ)) → stock_of (ks ++ carrier_new ks r resolver ∷ []) ≡ with_new (stock_of ks) r resolver
stock_with ks r resolver = new_stock ks (carrier_new ks r resolver) r resolver refl

-- ---- the buffers that it stands on

module _ (ks : List Known) (graph : List (List ℕ)) (counts : Counts) (kept : IsKept ks graph counts) (sources : List ℕ) (sources_there : Each (λ b. b < length ks) sources) where
  abbrev s : Stock
  s = stock_of ks

  abbrev n : ℕ
  n = length ks

  abbrev named : List (ℕ × ℕ)
  named = map (λ b. (b, now (stock_of ks) b)) sources

  count_is : count s ≡ n
  count_is = count_len ks graph counts kept

  there_by : (xs : List ℕ) → Each (λ b. b < n) xs → Each (λ (v : ℕ × ℕ). v.0 < n) (map (λ b. (b, now s b)) xs)
  there_by [] h = tt
  there_by (x ∷ xs) h = (h.0, there_by xs h.1)

  current_by : (xs : List ℕ) → Each (IsNow s) (map (λ b. (b, now s b)) xs)
  current_by [] = tt
  current_by (x ∷ xs) = (refl, current_by xs)

  -- ---- the graph

  abbrev pub linked_to : List (List ℕ)
  linked_to = linked (graph ++ [] ∷ []) (length graph) sources

  linked_is : linked_to ≡ graph ++ sources ∷ []
  linked_is = set_last graph [] sources

  old_sources : (b : ℕ) → b < n → graph_sources linked_to b ≡ sources_now s b
  old_sources b h =
      ap (λ g. graph_sources g b) linked_is ∙ index_push_old graph sources b (let e : length graph ≡ n = graph_len ks graph counts kept in omega arith)
      ∙ ap (λ g. graph_sources g b) kept.linked ∙ index_map (sources_now s) 0 n b h ∙ ap (sources_now s) (let e : 0 + b ≡ b = omega arith in e)

  abbrev with_them : ℕ → List ℕ
  with_them c = if nat_eq c (count s) then sources else sources_now s c

  sources_by : (b : ℕ) → graph_sources linked_to b ≡ with_them b
  sources_by b = elim (cases_eq b (count s)) [
    | inl e ↦ rw (eq-eqb b (count s) e) (ap (λ g. graph_sources g b) linked_is ∙ index_push_here graph sources b (let f : length graph ≡ n = graph_len ks graph counts kept in let d : count s ≡ n = count_is in omega arith))
    | inr ne ↦ rw (ne_eqb b (count s) ne) (elim (cases_lt b n) [
      | inl there ↦ old_sources b there
      | inr past ↦ ap (λ g. graph_sources g b) linked_is ∙ index_past (graph ++ sources ∷ []) b (let f : length graph ≡ n = graph_len ks graph counts kept in let d : count s ≡ n = count_is in omega (arith, length-append graph (sources ∷ [])))
          ∙ sym (ap (λ o. map (λ v. v.0) (sources_of (unwrap_or (slice_get (unwrap_or o missing).records (length (unwrap_or o missing).records - 1)) (base [] 0)))) (get_past s.buffers b (let d : count s ≡ n = count_is in omega arith)))
    ])
  ]

  sources_same : graph_sources linked_to ≡ with_them
  sources_same = λ i b. sources_by b i

  linked_len : length linked_to ≡ count s + 1
  linked_len = ap length linked_is ∙ (let l : length (graph ++ sources ∷ []) ≡ length graph + 1 = omega (arith, length-append graph (sources ∷ [])) in let e : length graph ≡ n = graph_len ks graph counts kept in let d : count s ≡ n = count_is in omega arith)

  pub depth_is : depth s (count s + 1) (count s) sources ≡ too_deep linked_to
  depth_is = ap (λ h. if nat_lt 8 h then Some (Refusal.Depth h) else None) (sym (ap (λ f. order.greatest_height f (length linked_to)) sources_same ∙ ap (order.greatest_height with_them) linked_len))

  -- ---- once the graph is levelled

  module _ (levelled : IsLevelled linked_to) where
    old_named : (b : ℕ) → b < n → Each (λ (v : ℕ × ℕ). v.0 < n) (sources_of (record_now s b))
    old_named b h = named_there ks (carrier_new ks (base [] 0) None) (base [] 0) None refl kept.settled b h

    -- what the new buffer stands on is low
    lower_new : Each (λ c. height_in linked_to c < height_in linked_to n) sources
    lower_new =
        subst (Each (λ c. height_in linked_to c < height_in linked_to n)) (ap (λ g. graph_sources g n) linked_is ∙ index_push_here graph sources n (let e : length graph ≡ n = graph_len ks graph counts kept in omega arith))
        (each_of (λ c. height_in linked_to c < height_in linked_to n) (graph_sources linked_to n) (levelled.lower n))

    top : height_in linked_to n ≤ 8
    unfolding order.greatest_height
    top = let h : height_in linked_to n ≤ fold max 0 (map (height_in linked_to) (places (length linked_to))) = greatest_above (height_in linked_to) 0 (length linked_to) 0 n (omega arith) (let e : length linked_to ≡ count s + 1 = linked_len in let d : count s ≡ n = count_is in omega arith) in omega (arith, levelled.shallow, h)

    founded_by : (xs : List ℕ) → Each (λ b. b < n) xs → Each (λ c. height_in linked_to c < height_in linked_to n) xs → Each (Founded (record_at s) 8) (map (λ b. (b, now s b)) xs)
    founded_by [] h l = tt
    founded_by (x ∷ xs) h l =
        (shallow s linked_to n levelled kept.settled count_is old_sources old_named 8 x h.0 (let a : height_in linked_to x < height_in linked_to n = l.0 in let b : height_in linked_to n ≤ 8 = top in omega arith), founded_by xs h.1 l.1)

    all_founded : Each (Founded (record_at s) 8) named
    all_founded = founded_by sources sources_there lower_new

    vs_there : Each (λ (v : ℕ × ℕ). v.0 < n) named
    vs_there = there_by sources sources_there

    -- ---- the new buffer over them

    module _ (r : Record) (names : sources_of r ≡ map (λ b. (b, now (stock_of ks) b)) sources) (carries : is_carrier r ≡ true) (inside : Inside (stock_of ks) r) (resolver : Option (List ℕ)) where
      abbrev k : Known
      k = carrier_new ks r resolver

      abbrev t : Stock
      t = stock_of (ks ++ carrier_new ks r resolver ∷ [])

      founded_names : Each (Founded (record_at s) 8) (sources_of r)
      founded_names = subst (Each (Founded (record_at s) 8)) (sym names) all_founded

      names_there : Each (λ (v : ℕ × ℕ). v.0 < n) (sources_of r)
      names_there = subst (Each (λ (v : ℕ × ℕ). v.0 < n)) (sym names) vs_there

      names_current : Each (IsNow s) (sources_of r)
      names_current = subst (Each (IsNow s)) (sym names) (current_by sources)

      grows : Grows s t n r
      grows = new_grows ks k r resolver refl

      units_len : length (units_new s r) ≡ members_len (members_of r)
      units_len = length_text_over (named_text (record_at s) (sources_of r)) (members_of r) (each_weaker (EndsIn s (sources_of r)) (Fits (named_text (record_at s) (sources_of r))) (fits_named s (sources_of r)) (members_of r) (stands s r inside).ends)

      text_first : text_at t n 0 ≡ units_new s r
      text_first = ap (text_at t n) (sym (new_first ks k r resolver refl)) ∙ grown_carrier_text s t n r grows founded_names carries

      inserted_is : counts.inserted + 0 ≡ inserted t
      inserted_is = let a : inserted t ≡ inserted (with_new s r resolver) = ap inserted (stock_with ks r resolver) in let b : inserted (with_new s r resolver) ≡ inserted s = inserted_new_carrier s r resolver carries in let d : counts.inserted ≡ inserted s = kept.inserted in omega arith

      versions_is : counts.versions + 1 ≡ versions t
      versions_is = let a : versions t ≡ versions (with_new s r resolver) = ap versions (stock_with ks r resolver) in let b : versions (with_new s r resolver) ≡ versions s + 1 = versions_new s r resolver in let d : counts.versions ≡ versions s = kept.versions in omega arith

      placements_is : counts.placements + tracked_in r ≡ placements t
      placements_is = let a : placements t ≡ placements (with_new s r resolver) = ap placements (stock_with ks r resolver) in let b : placements (with_new s r resolver) ≡ placements s + tracked_in r = placements_new s r resolver in let d : counts.placements ≡ placements s = kept.placements in omega arith

      limits_are : first_some (stock_limits (with_new (stock_of ks) r resolver)) ≡ new_limit (length ks + 1) (members_len (members_of r)) (counts_with counts (tracked_in r)) (length (members_of r))
      limits_are =
          ap (λ x. first_some (stock_limits x)) (sym (stock_with ks r resolver))
          ∙ limits_new ks k r resolver refl kept.settled kept.within (counts_with counts (tracked_in r)) inserted_is versions_is placements_is
          ∙ ap (λ u. new_limit (n + 1) u (counts_with counts (tracked_in r)) (length (members_of r))) (ap (λ v. length (text_at t n v)) (new_first ks k r resolver refl) ∙ ap length text_first ∙ units_len)

      carrier_kept : new_limit (length ks + 1) (members_len (members_of r)) (counts_with counts (tracked_in r)) (length (members_of r)) ≡ None → IsKept (ks ++ carrier_new ks r resolver ∷ []) linked_to (counts_with counts (tracked_in r))
      carrier_kept none =
          new_kept ks k r resolver refl kept.settled founded_names names_there names_current inside graph linked_to counts (counts_with counts (tracked_in r)) kept refl (units_new s r) refl text_first
          (linked_is ∙ ap (λ xs. graph ++ xs ∷ []) (sym (ap (map (λ v. v.0)) names ∙ firsts (now s) sources)))
          (ap (λ x. first_some (stock_limits x)) (stock_with ks r resolver) ∙ limits_are ∙ none) inserted_is versions_is placements_is

-- ---- over buffers that are held

pub held_stock : (hs : List Held) (r : Record) (resolver : Option (List ℕ)) (h : Held) → known h ≡ carrier_new (map known hs) r resolver → (hs' : List Held) → hs' ≡ hs ++ h ∷ [] → stock hs' ≡ with_new (stock hs) r resolver
held_stock hs r resolver h h_is hs' is =
    ap stock is ∙ ap stock_of (map_push known hs h) ∙ ap (λ k. stock_of (map known hs ++ k ∷ [])) h_is ∙ stock_with (map known hs) r resolver

module _ (hs : List Held) (graph : List (List ℕ)) (counts : Counts) (kept : IsKept (map known hs) graph counts) where
  pub held_placements : counts.placements ≤ 2 ^ 26
  held_placements =
      let l : placements (stock hs) ≤ 2 ^ 26 = not_passed Which.Placements (2 ^ 26) (placements (stock hs)) (each_none (stock_limits (stock hs)) kept.within).1.1.1.1.1.0 in
      omega (arith, kept.placements)

  -- a new carrier over buffers that are there, with the numbers that are kept then
  module _ (sources : List ℕ) (there : Each (λ b. b < length (map known hs)) sources) (g : List (List ℕ)) (g_is : g ≡ linked (graph ++ [] ∷ []) (length graph) sources) (levelled : IsLevelled g)
      (r : Record) (names : sources_of r ≡ map (λ b. (b, now (stock hs) b)) sources) (carries : is_carrier r ≡ true) (inside : Inside (stock hs) r)
      (m : ℕ) (m_is : m ≡ length hs) (follow : ℕ) (follow_is : follow ≡ tracked_in r) (cs : Counts) (cs_is : cs ≡ counts_with counts follow) where
    levelled_held : IsLevelled (linked (graph ++ [] ∷ []) (length graph) sources)
    levelled_held = subst IsLevelled g_is levelled

    cs_held : cs ≡ counts_with counts (tracked_in r)
    cs_held = cs_is ∙ ap (counts_with counts) follow_is

    same_limit : new_limit (m + 1) (members_len (members_of r)) cs (length (members_of r)) ≡ new_limit (length (map known hs) + 1) (members_len (members_of r)) (counts_with counts (tracked_in r)) (length (members_of r))
    same_limit = ap (λ k. new_limit (k + 1) (members_len (members_of r)) cs (length (members_of r))) (m_is ∙ sym (length-map hs known)) ∙ ap (λ k. new_limit (length (map known hs) + 1) (members_len (members_of r)) k (length (members_of r))) cs_held

    pub held_limits : (resolver : Option (List ℕ)) → first_some (stock_limits (with_new (stock hs) r resolver)) ≡ new_limit (m + 1) (members_len (members_of r)) cs (length (members_of r))
    held_limits resolver = limits_are (map known hs) graph counts kept sources there levelled_held r names carries inside resolver ∙ sym same_limit

    pub carrier_put : (resolver : Option (List ℕ)) (h : Held) → known h ≡ carrier_new (map known hs) r resolver → new_limit (m + 1) (members_len (members_of r)) cs (length (members_of r)) ≡ None → IsKept (map known hs ++ known h ∷ []) g cs
    carrier_put resolver h h_is none =
        subst (λ k. IsKept (map known hs ++ k ∷ []) g cs) (sym h_is)
        (subst (λ x. IsKept (map known hs ++ carrier_new (map known hs) r resolver ∷ []) x cs) (sym g_is)
        (subst (λ k. IsKept (map known hs ++ carrier_new (map known hs) r resolver ∷ []) (linked (graph ++ [] ∷ []) (length graph) sources) k) (sym cs_held)
        (carrier_kept (map known hs) graph counts kept sources there levelled_held r names carries inside resolver (sym same_limit ∙ none))))

pub same_args : (buffers units units' : ℕ) (counts : Counts) (most most' : ℕ) → units ≡ units' → most ≡ most' → new_limit buffers units counts most ≡ new_limit buffers units' counts most'
same_args buffers len len' counts most most' e f = ap (λ u. new_limit buffers u counts most) e ∙ ap (new_limit buffers len' counts) f
