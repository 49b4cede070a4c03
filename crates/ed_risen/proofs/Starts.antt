-- The way that begins with first versions: it goes through the order of the graph, and a first version that is too long is the first that is.
use Rattle.std.proofs.Common.{◌≡◌, ◌≢◌, ℕ, ◌+◌, ◌<◌, ◌≤◌, ◌^◌, true, false, List, [], ◌∷◌, ◌++◌, length, map, fold, Some, None, refl, sym, ap, ◌∙◌, subst, arith, append_assoc}
use Rattle.std.specs.Prelude.{is_some}
use Rattle.std.specs.List.{AllByRecursion as Each, list_any}
use Rattle.ed_base.specs.declared.Refusal.{Refusal}
use Rattle.ed_base.specs.declared.Which.{Which}
use Rattle.ed_base.specs.Numbers.{first_some, is_among, places}
use Rattle.ed_graph.proofs.Fuel.{within_rounds}
use Rattle.ed_graph.specs.Standing.{height_in, order_in, sources_in as graph_sources}
use Rattle.ed_layers.specs.Graph as layers
use Rattle.ed_stock.specs.Limits.{over, stock_limits}
use Rattle.ed_stock.specs.Stock.{Stock, buffer, count, graph_order, now, sources_now, text_now}
use Rattle.ed_stock.specs.Versions.{Rising, is_moved, none_given, risen, risen_at, step_in}
use Rattle.ed_risen.specs.Growing.{AreFounded}
use Rattle.ed_risen.specs.Start.{IsStart}
use Rattle.ed_risen.proofs.Lists.{among_behind, among_front, among_itself, among_split, clash, each_among, each_of, fold_append, index_list}
use Rattle.ed_risen.proofs.OneLimit.{first_long}
use Rattle.ed_risen.proofs.Order.{Comes, order_all, order_comes}
use Rattle.ed_risen.proofs.Turns.{NamesStay, most_all, names_stay, text_stays}

module _ (s : Stock) (g : List (List ℕ)) (first : Rising) (start : IsStart s g first) where
  abbrev final : Rising
  final = fold (risen_at none_given) first (order_in g)

  -- ---- the order

  pub first_order : graph_order first.stock ≡ order_in g
  first_order = ap (λ f. layers.graph_order f (count first.stock)) start.names ∙ ap (layers.graph_order (graph_sources g)) (start.same_count ∙ sym start.len)

  comes_at : (ys zs : List ℕ) (c : ℕ) → order_in g ≡ ys ++ c ∷ zs → Comes (height_in g) (length g) 0 (length g + 1) ys c
  comes_at ys zs c split = order_comes (graph_sources g) (length g) ys c zs split

  there_at : (ys zs : List ℕ) (c : ℕ) → order_in g ≡ ys ++ c ∷ zs → c < count s
  there_at ys zs c split = subst (λ k. c < k) start.len (comes_at ys zs c split).there

  pub order_there : Each (λ c. c < count first.stock) (order_in g)
  order_there = each_among (λ c. c < count first.stock) (order_in g) (λ c i. let k : (ys : List ℕ) × (zs : List ℕ) × (order_in g ≡ ys ++ c ∷ zs) = among_split c (order_in g) i in subst (λ m. c < m) (sym start.same_count) (there_at k.0 k.1 c k.2))

  pub all_there : Each (λ c. c < count s) (order_in g)
  all_there = subst (λ k. Each (λ c. c < k) (order_in g)) start.same_count order_there

  -- ---- the end

  pub risen_is : risen none_given first ≡ final
  unfolding risen
  risen_is = ap (fold (risen_at none_given) first) first_order

  pub stay : NamesStay first final
  stay = names_stay (order_in g) first order_there

  -- the sources are those of the graph still
  pub names_left : sources_now final.stock ≡ graph_sources g
  names_left = λ i c. (stay.names c ∙ ap (λ (f : ℕ → List ℕ). f c) start.names) i

  pub count_left : count final.stock ≡ count s
  count_left = stay.same_count ∙ start.same_count

  pub order_left : graph_order final.stock ≡ order_in g
  order_left = ap (λ f. layers.graph_order f (count final.stock)) names_left ∙ ap (layers.graph_order (graph_sources g)) (count_left ∙ sym start.len)

  pub linked_left : g ≡ map (sources_now final.stock) (places (count s))
  linked_left =
      index_list g 0 (graph_sources g) (λ i. ap (graph_sources g) (let e : 0 + i ≡ i = omega arith in e))
      ∙ ap (λ (f : ℕ → List ℕ). map f (places (length g))) (sym names_left)
      ∙ ap (λ k. map (sources_now final.stock) (places k)) start.len

  pub few_left : over Which.Buffers s.most_buffers (count s) ≡ None → over Which.Buffers final.stock.most_buffers (count final.stock) ≡ None
  few_left few = ap (λ k. over Which.Buffers k (count final.stock)) (most_all (order_in g) first ∙ start.same_most) ∙ ap (over Which.Buffers s.most_buffers) count_left ∙ few

  -- ---- a first version that is too long, where nothing that stands lower has stepped, and what comes before isn't too long

  module _ (founded : AreFounded first.stock) (some : (c : ℕ) → c < count s → 0 < length (buffer first.stock c).records) (b : ℕ) (low : (c : ℕ) → height_in g c < height_in g b → step_in first.moves c ≡ None)
      (passed rest : List ℕ) (split : order_in g ≡ passed ++ b ∷ rest) where
    none_in : (c : ℕ) → height_in g c ≤ height_in g b → (xs : List ℕ) → Each (λ d. height_in g d < height_in g c) xs → list_any (λ source. is_some (step_in first.moves source)) xs ≡ false
    none_in c le [] l = refl
    none_in c le (x ∷ xs) l = rw (low x (let a : height_in g x < height_in g c = l.0 in omega arith), none_in c le xs l.1) refl

    still : (c : ℕ) → height_in g c ≤ height_in g b → risen_at none_given first c ≡ first
    still c le =
        let none : is_moved first c ≡ false = ap (λ (f : ℕ → List ℕ). list_any (λ source. is_some (step_in first.moves source)) (f c)) start.names ∙ none_in c le (graph_sources g c) (each_of (λ d. height_in g d < height_in g c) (graph_sources g c) (start.levelled.lower c)) in
        rw none refl

    passed_still : (xs : List ℕ) → Each (λ c. height_in g c ≤ height_in g b) xs → fold (risen_at none_given) first xs ≡ first
    passed_still [] h = refl
    passed_still (x ∷ xs) h = ap (λ r. fold (risen_at none_given) r xs) (still x h.0) ∙ passed_still xs h.1

    final_is : final ≡ fold (risen_at none_given) first rest
    final_is =
        ap (fold (risen_at none_given) first) split ∙ fold_append (risen_at none_given) first passed (b ∷ rest)
        ∙ ap (λ r. fold (risen_at none_given) r (b ∷ rest)) (passed_still passed (comes_at passed rest b split).no_higher)
        ∙ ap (λ r. fold (risen_at none_given) r rest) (still b (omega arith))

    -- what comes behind
    behind : (c : ℕ) → is_among c rest ≡ true → (ys : List ℕ) × (zs : List ℕ) × (order_in g ≡ (passed ++ b ∷ ys) ++ c ∷ zs)
    behind c i =
        let cut : (ys : List ℕ) × (zs : List ℕ) × (rest ≡ ys ++ c ∷ zs) = among_split c rest i in
        (cut.0, cut.1, split ∙ ap (λ xs. passed ++ b ∷ xs) cut.2 ∙ sym (append_assoc passed (b ∷ cut.0) (c ∷ cut.1)))

    rest_there : Each (λ c. c < count first.stock) rest
    rest_there = each_among (λ c. c < count first.stock) rest (λ c i. let k : (ys : List ℕ) × (zs : List ℕ) × (order_in g ≡ (passed ++ b ∷ ys) ++ c ∷ zs) = behind c i in subst (λ m. c < m) (sym start.same_count) (there_at (passed ++ b ∷ k.0) k.1 c k.2))

    once : (c : ℕ) → is_among c (passed ++ b ∷ []) ≡ true → is_among c rest ≡ true → ⊥
    once c early late =
        let k : (ys : List ℕ) × (zs : List ℕ) × (order_in g ≡ (passed ++ b ∷ ys) ++ c ∷ zs) = behind c late in
        let e : (passed ++ b ∷ []) ++ k.0 ≡ passed ++ b ∷ k.0 = append_assoc passed (b ∷ []) k.0 in
        clash (is_among c (passed ++ b ∷ k.0)) (subst (λ xs. is_among c xs ≡ true) e (among_front c (passed ++ b ∷ []) k.0 early)) (comes_at (passed ++ b ∷ k.0) k.1 c k.2).fresh

    stays_text : (c : ℕ) → c < count s → is_among c (passed ++ b ∷ []) ≡ true → text_now final.stock c ≡ text_now first.stock c
    stays_text c in_ early =
        ap (λ r. text_now r.stock c) final_is
        ∙ text_stays rest first c rest_there (founded c (now first.stock c) (let l : 0 < length (buffer first.stock c).records = some c in_ in omega arith)) (λ late. absurd (once c early late))

    passed_short : ((c : ℕ) → c < count s → is_among c passed ≡ true → length (text_now first.stock c) ≤ 2 ^ 22) → (c : ℕ) → is_among c passed ≡ true → length (text_now final.stock c) ≤ 2 ^ 22
    passed_short short c i =
        let cut : (ys : List ℕ) × (zs : List ℕ) × (passed ≡ ys ++ c ∷ zs) = among_split c passed i in
        let at : order_in g ≡ cut.0 ++ c ∷ (cut.1 ++ b ∷ rest) = split ∙ ap (λ xs. xs ++ b ∷ rest) cut.2 ∙ append_assoc cut.0 (c ∷ cut.1) (b ∷ rest) in
        let in_ : c < count s = there_at cut.0 (cut.1 ++ b ∷ rest) c at in
        subst (λ xs. length xs ≤ 2 ^ 22) (sym (stays_text c in_ (among_front c passed (b ∷ []) i))) (short c in_ i)

    pub first_too_long : over Which.Buffers s.most_buffers (count s) ≡ None → ((c : ℕ) → c < count s → is_among c passed ≡ true → length (text_now first.stock c) ≤ 2 ^ 22) → 2 ^ 22 < length (text_now first.stock b)
        → first_some (stock_limits (risen none_given first).stock) ≡ Some (Refusal.Limit Which.Units (length (text_now first.stock b)))
    first_too_long few short long =
        ap (λ (u : Rising). first_some (stock_limits u.stock)) risen_is
        ∙ first_long final.stock passed rest b (length (text_now first.stock b)) (few_left few) (order_left ∙ split) (each_among (λ c. length (text_now final.stock c) ≤ 2 ^ 22) passed (passed_short short))
        (ap length (stays_text b (there_at passed rest b split) (among_behind b passed (b ∷ []) (among_itself b [])))) long

  -- the same of one that alone may be
  pub only_too_long : AreFounded first.stock → ((c : ℕ) → c < count s → 0 < length (buffer first.stock c).records) → (b : ℕ) → b < count s → ((c : ℕ) → height_in g c < height_in g b → step_in first.moves c ≡ None) → over Which.Buffers s.most_buffers (count s) ≡ None
      → ((c : ℕ) → c < count s → c ≢ b → length (text_now first.stock c) ≤ 2 ^ 22) → 2 ^ 22 < length (text_now first.stock b) → first_some (stock_limits (risen none_given first).stock) ≡ Some (Refusal.Limit Which.Units (length (text_now first.stock b)))
  only_too_long founded some b there low few short long =
      let at : (ys : List ℕ) × (zs : List ℕ) × (order_in g ≡ ys ++ b ∷ zs) = among_split b (order_in g) (order_all (graph_sources g) (length g) b (subst (λ k. b < k) (sym start.len) there) (within_rounds (graph_sources g) (length g) (length g) b)) in
      first_too_long founded some b low at.0 at.1 at.2 few (λ c in_ i. short c in_ (other at.0 at.1 at.2 c i)) long
    where
      other : (ys zs : List ℕ) → order_in g ≡ ys ++ b ∷ zs → (c : ℕ) → is_among c ys ≡ true → c ≢ b
      other ys zs split c i e = absurd (clash (is_among b ys) (subst (λ d. is_among d ys ≡ true) e i) (comes_at ys zs b split).fresh)
