-- Why members of a projection aren't replaced, as far as its members and its sources are concerned.
use Rattle.std.proofs.Common.{◌≡◌, ◌≢◌, ℕ, zero, suc, ◌+◌, ◌<◌, Bool, true, false, inl, inr, List, [], ◌∷◌, ◌++◌, length, map, Option, Some, None, refl, sym, ap, ◌∙◌, subst, arith, length-set}
use Rattle.std.specs.Prelude.{All, Ok, Err, find, take, drop, nat_eq, nat_lt, option_map, slice_index_or, slice_set, if◌then◌else◌}
use Rattle.std.specs.List.{AllByRecursion as Each}
use Rattle.std.proofs.lemmas.Bool.{cases_eq, eq-eqb, ne_eqb}
use Rattle.ed_base.specs.declared.Member.{Member}
use Rattle.ed_base.specs.declared.Refusal.{Refusal}
use Rattle.ed_base.specs.Numbers.{first_some, is_among, or_else, places}
use Rattle.ed_graph.specs.Standing.{IsLevelled, first_cycle, linked, reaches_in, sources_in as graph_sources}
use Rattle.ed_layers.specs.Graph as order
use Rattle.ed_layers.specs.Order.{mode_fault, overlap_fault}
use Rattle.ed_layers.specs.Records.{sources_of}
use Rattle.ed_members.specs.Faults.{first_fault, len_in}
use Rattle.ed_stock.specs.Limits.{stock_limits}
use Rattle.ed_stock.specs.Linking.{cycle, depth}
use Rattle.ed_stock.specs.Making.{sources_in, spans_replaced, spans_set}
use Rattle.ed_stock.specs.Stock.{Stock, count, now, reaches, record_now, sources_now}
use Rattle.ed_version.specs.declared.Snapshot.{Snapshot}
use Rattle.ed_group.specs.Answers.{LiesIn, len_now, members_now, spans_fault}
use Rattle.ed_climb.specs.Refusals.{Refuses}
use Rattle.ed_climb.specs.declared.counts.Counts.{Counts}
use Rattle.ed_climb.specs.declared.fault.PlanFault.{PlanFault}
use Rattle.ed_held.specs.declared.held.Held.{Held}
use Rattle.ed_climb.specs.Kept.{IsKept}
use Rattle.ed_group.specs.Placed.{too_deep}
use Rattle.ed_risen.specs.Rising.{EndsIn}
use Rattle.ed_held.specs.Seen.{known, stock}
use Rattle.ed_group.specs.Spanning.{standing_fault}
use Rattle.ed_climb.proofs.KeptNumbers.{count_len, graph_len}
use Rattle.ed_risen.proofs.ShownRuns.{stands}
use Rattle.ed_risen.proofs.Settled.{all_of}
use Rattle.ed_risen.proofs.FoundedLemmas.{each_version, each_weaker}
use Rattle.ed_risen.proofs.Sources.{Agree, IsListed, OfSource, all_listed, same_mode_fault}
use Rattle.ed_risen.proofs.Lists.{each_append, or_else_assoc, or_else_none, each_of}
use Rattle.ed_group.proofs.Projected.{agrees}
use Rattle.ed_group.proofs.Refusing.{both_none, refused_none, refuses_first}
use Rattle.ed_climb.proofs.Routes.{sources_same}
use Rattle.ed_climb.proofs.Snapshots.{snaps}

-- ---- lists

each_take : {X : Type 0} (P : X → Type 0) (n : ℕ) (xs : List X) → Each P xs → Each P (take n xs)
each_take P zero xs h = tt
each_take P (suc n) [] h = tt
each_take P (suc n) (x ∷ xs) h = (h.0, each_take P n xs h.1)

each_drop : {X : Type 0} (P : X → Type 0) (n : ℕ) (xs : List X) → Each P xs → Each P (drop n xs)
each_drop P zero xs h = h
each_drop P (suc n) [] h = tt
each_drop P (suc n) (x ∷ xs) h = each_drop P n xs h.1

each_first : (P : ℕ → Type 0) (vs : List (ℕ × ℕ)) → Each P (map (λ v. v.0) vs) → Each (λ v. P v.0) vs
each_first P [] h = tt
each_first P (v ∷ vs) h = (h.0, each_first P vs h.1)

index_set_here : (xs : List (List ℕ)) (b : ℕ) (x : List ℕ) → b < length xs → slice_index_or (slice_set xs b x) b [] ≡ x
index_set_here [] b x h = absurd (omega arith)
index_set_here (y ∷ ys) zero x h = refl
index_set_here (y ∷ ys) (suc b) x h = index_set_here ys b x (omega arith)

index_set_other : (xs : List (List ℕ)) (b c : ℕ) (x : List ℕ) → c ≢ b → slice_index_or (slice_set xs b x) c [] ≡ slice_index_or xs c []
index_set_other [] b c x ne = refl
index_set_other (y ∷ ys) zero zero x ne = absurd (ne refl)
index_set_other (y ∷ ys) zero (suc c) x ne = refl
index_set_other (y ∷ ys) (suc b) zero x ne = refl
index_set_other (y ∷ ys) (suc b) (suc c) x ne = index_set_other ys b c x (λ e. ne (ap suc e))

-- ---- the first source of members that passes a test

first_source : (ℕ → Bool) → List Member → Option ℕ
first_source test [] = None
first_source test (Member.Literal units ∷ ms) = first_source test ms
first_source test (Member.Tracked source bounds mode ∷ ms) = if test source then Some source else first_source test ms

found_source : (test : ℕ → Bool) (seen : List ℕ) → ((c : ℕ) → is_among c seen ≡ true → test c ≡ false) → (ms : List Member) → find test (sources_in seen ms) ≡ first_source test ms
unfolding first_source
found_source test seen none [] = refl
found_source test seen none (Member.Literal units ∷ ms) = found_source test seen none ms
found_source test seen none (Member.Tracked source bounds mode ∷ ms) = by (is_among source seen) refl (test source) refl (found_source test seen none ms) (λ f. found_source test (source ∷ seen) (none_more f) ms)
  where
    none_more : test source ≡ false → (c : ℕ) → is_among c (source ∷ seen) ≡ true → test c ≡ false
    none_more f c i = elim (cases_eq c source) [
      | inl e ↦ ap test e ∙ f
      | inr ne ↦ none c (let e : is_among c (source ∷ seen) ≡ is_among c seen = rw (ne_eqb c source ne) refl in sym e ∙ i)
    ]

    by : (q : Bool) → is_among source seen ≡ q → (t : Bool) → test source ≡ t → find test (sources_in seen ms) ≡ first_source test ms → (test source ≡ false → find test (sources_in (source ∷ seen) ms) ≡ first_source test ms) → find test (sources_in seen (Member.Tracked source bounds mode ∷ ms)) ≡ first_source test (Member.Tracked source bounds mode ∷ ms)
    by true q t is before more = rw (q, none source q) before
    by false q true is before more = rw (q, is) refl
    by false q false is before more = rw (q, is) (more is)

first_skips : (test : ℕ → Bool) (xs ys : List Member) → Each (OfSource (λ c. test c ≡ false)) xs → first_source test (xs ++ ys) ≡ first_source test ys
unfolding first_source
first_skips test [] ys h = refl
first_skips test (Member.Literal units ∷ xs) ys h = first_skips test xs ys h.1
first_skips test (Member.Tracked source bounds mode ∷ xs) ys h = rw h.0 (first_skips test xs ys h.1)

first_ends : (test : ℕ → Bool) (xs ys : List Member) → Each (OfSource (λ c. test c ≡ false)) ys → first_source test (xs ++ ys) ≡ first_source test xs
unfolding first_source
first_ends test [] [] h = refl
first_ends test [] (Member.Literal units ∷ ys) h = first_ends test [] ys h.1
first_ends test [] (Member.Tracked source bounds mode ∷ ys) h = rw h.0 (first_ends test [] ys h.1)
first_ends test (Member.Literal units ∷ xs) ys h = first_ends test xs ys h
first_ends test (Member.Tracked source bounds mode ∷ xs) ys h = ap (λ o. if test source then Some source else o) (first_ends test xs ys h)

-- ---- refusals

-- ---- the members that would be shown

ends_of_source : (s : Stock) (P : ℕ → Type 0) (vs : List (ℕ × ℕ)) → Each (λ v. P v.0) vs → (m : Member) → EndsIn s vs m → OfSource P m
ends_of_source s P vs all (Member.Literal units) e = tt
ends_of_source s P vs all (Member.Tracked source bounds mode) e = each_version (λ v. P v.0) vs source (now s source) all e.0

ends_lie : (s : Stock) (vs : List (ℕ × ℕ)) → Each (λ v. v.0 < count s) vs → (m : Member) → EndsIn s vs m → LiesIn s m
ends_lie s vs all (Member.Literal units) e = tt
ends_lie s vs all (Member.Tracked source bounds mode) e = (each_version (λ v. v.0 < count s) vs source (now s source) all e.0, e.1)

module _ (hs : List Held) (graph : List (List ℕ)) (counts : Counts) (kept : IsKept (map known hs) graph counts) (levelled : IsLevelled graph) (b : ℕ) (there : b < count (stock hs))
    (first removed : ℕ) (added : List Member) (lies : All (LiesIn (stock hs)) added) where
  abbrev s : Stock
  s = stock hs

  abbrev pub shown : List Member
  shown = spans_replaced (members_now (stock hs) b) first removed added

  abbrev old : List (ℕ × ℕ)
  old = sources_of (record_now s b)

  graph_is : graph ≡ map (sources_now s) (places (count s))
  graph_is = kept.linked ∙ ap (λ k. map (sources_now s) (places k)) (sym (count_len (map known hs) graph counts kept))

  pub len_is : length graph ≡ count s
  len_is = graph_len (map known hs) graph counts kept ∙ sym (count_len (map known hs) graph counts kept)

  pub same_sources : graph_sources graph ≡ sources_now s
  same_sources = sources_same s graph graph_is

  old_each : (P : ℕ → Type 0) → Each P (graph_sources graph b) → Each (λ v. P v.0) old
  old_each P h = each_first P old (subst (λ f. Each P (f b)) same_sources h)

  old_there : Each (λ v. v.0 < count s) old
  old_there = old_each (λ c. c < count s) (subst (λ k. Each (λ c. c < k) (graph_sources graph b)) len_is (each_of (λ c. c < length graph) (graph_sources graph b) (levelled.within b [] (subst (λ k. b < k) (sym len_is) there))))

  old_ends : Each (EndsIn s old) (members_now s b)
  old_ends = (stands s (record_now s b) (kept.settled.inside b there)).ends

  shown_each : (P : Member → Type 0) → Each P (members_now s b) → Each P added → Each P shown
  shown_each P h k =
      each_append P (take first (members_now s b) ++ added) (drop (first + removed) (members_now s b))
      (each_append P (take first (members_now s b)) added (each_take P first (members_now s b) h) k) (each_drop P (first + removed) (members_now s b) h)

  pub shown_lies : Each (LiesIn s) shown
  shown_lies = shown_each (LiesIn s) (each_weaker (EndsIn s old) (LiesIn s) (ends_lie s old old_there) (members_now s b) old_ends) (each_of (LiesIn s) added lies)

  pub all_lie : All (LiesIn (stock hs)) shown
  all_lie = all_of (LiesIn s) shown shown_lies

  -- ---- the graph

  abbrev test : ℕ → Bool
  test = λ c. reaches_in graph c b

  old_apart : Each (OfSource (λ c. reaches_in graph c b ≡ false)) (members_now s b)
  old_apart = each_weaker (EndsIn s old) (OfSource (λ c. reaches_in graph c b ≡ false))
      (ends_of_source s (λ c. reaches_in graph c b ≡ false) old (old_each (λ c. reaches_in graph c b ≡ false) (each_of (λ c. reaches_in graph c b ≡ false) (graph_sources graph b) (levelled.no_cycle b)))) (members_now s b) old_ends

  none_seen : (c : ℕ) → is_among c [] ≡ true → test c ≡ false
  none_seen c i = absurd (cc)

  first_shown : find test (sources_in [] shown) ≡ find test (sources_in [] added)
  first_shown =
      found_source test [] none_seen shown
      ∙ first_ends test (take first (members_now s b) ++ added) (drop (first + removed) (members_now s b)) (each_drop (OfSource (λ c. reaches_in graph c b ≡ false)) (first + removed) (members_now s b) old_apart)
      ∙ first_skips test (take first (members_now s b)) added (each_take (OfSource (λ c. reaches_in graph c b ≡ false)) first (members_now s b) old_apart)
      ∙ sym (found_source test [] none_seen added)

  same_test : test ≡ (λ c. reaches s c b)
  same_test = ap (λ f. λ c. order.reaches f (length graph) c b) same_sources ∙ ap (λ k. λ c. order.reaches (sources_now s) k c b) len_is

  pub cycle_is : cycle s b added ≡ option_map Refusal.Cycle (first_cycle graph b (sources_in [] shown))
  cycle_is = ap (λ f. option_map Refusal.Cycle (find f (sources_in [] added))) (sym same_test) ∙ ap (option_map Refusal.Cycle) (sym first_shown)

  module _ (sources : List ℕ) where
    abbrev with_them : ℕ → List ℕ
    with_them c = if nat_eq c b then sources else sources_now s c

    linked_at : (c : ℕ) → graph_sources (linked graph b sources) c ≡ with_them c
    linked_at c = elim (cases_eq c b) [
      | inl e ↦ rw (eq-eqb c b e) (ap (λ d. slice_index_or (slice_set graph b sources) d []) e ∙ index_set_here graph b sources (subst (λ k. b < k) (sym len_is) there))
      | inr ne ↦ rw (ne_eqb c b ne) (index_set_other graph b c sources ne ∙ ap (λ f. f c) same_sources)
    ]

    pub linked_here : graph_sources (linked graph b sources) b ≡ sources
    linked_here = index_set_here graph b sources (subst (λ k. b < k) (sym len_is) there)

    pub linked_other : (c : ℕ) → c ≢ b → graph_sources (linked graph b sources) c ≡ sources_now s c
    linked_other c ne = index_set_other graph b c sources ne ∙ ap (λ f. f c) same_sources

    pub linked_len : length (linked graph b sources) ≡ count s
    linked_len = length-set graph b sources ∙ len_is

    linked_same : graph_sources (linked graph b sources) ≡ with_them
    linked_same = λ i c. linked_at c i

    pub depth_is : depth s (count s) b sources ≡ too_deep (linked graph b sources)
    depth_is = ap (λ h. if nat_lt 8 h then Some (Refusal.Depth h) else None) (sym (ap (λ f. order.greatest_height f (length (linked graph b sources))) linked_same ∙ ap (order.greatest_height with_them) linked_len))

  -- ---- one after the other

  abbrev pub last_limit : Option Refusal
  last_limit = first_some (stock_limits (spans_set (stock hs) b first removed added).stock)

  module _ (ss : List Snapshot) (ss_is : ss ≡ snaps (stock hs) (map (λ c. (c, now (stock hs) c)) (sources_in [] (spans_replaced (members_now (stock hs) b) first removed added))))
      (ls : List (ℕ × ℕ)) (ls_is : ls ≡ map {B = ℕ × ℕ} (λ (x : Snapshot). (x.buffer, length x.text)) ss) where
    mode_is : mode_fault (len_now s) shown ≡ mode_fault (len_in ls) shown
    mode_is = same_mode_fault (len_now s) (len_in ls) shown
        (each_weaker (IsListed (sources_in [] shown)) (Agree (len_now s) (len_in ls)) (agrees hs graph counts kept shown all_lie ss ss_is ls ls_is) shown (all_listed shown))

    pub parts : spans_fault s b first removed added ≡ or_else (first_fault (len_in ls) shown) (or_else (standing_fault graph b (sources_in [] shown)) last_limit)
    parts = whole (mode_fault (len_now s) shown) (mode_fault (len_in ls) shown) (overlap_fault shown) (cycle s b added) (option_map Refusal.Cycle (first_cycle graph b (sources_in [] shown))) (depth s (count s) b (sources_in [] shown)) (too_deep (linked graph b (sources_in [] shown))) last_limit
        mode_is cycle_is (depth_is (sources_in [] shown))
      where
        whole : (a a' o c c' d d' l : Option Refusal) → a ≡ a' → c ≡ c' → d ≡ d' → first_some (a ∷ o ∷ c ∷ d ∷ l ∷ []) ≡ or_else (or_else a' o) (or_else (or_else c' d') l)
        whole a a' o c c' d d' l e f g =
            rw (e, f, g) (sym (or_else_assoc a' o (or_else (or_else c' d') l)
            ∙ ap (λ x. or_else a' (or_else o x)) (or_else_assoc c' d' l)
            ∙ ap (λ x. or_else a' (or_else o (or_else c' (or_else d' x)))) (sym (or_else_none l))))

    -- the members are refused
    pub members_refused : (X Y : Type 0) (e : PlanFault) → Refuses {X = X} (first_fault (len_in ls) shown) (Err e) → Refuses {X = Y} (spans_fault s b first removed added) (Err e)
    members_refused X Y e h = subst (λ o. Refuses {X = Y} o (Err e)) (sym parts) (refuses_first X Y (first_fault (len_in ls) shown) (or_else (standing_fault graph b (sources_in [] shown)) last_limit) e h)

    module _ (X : Type 0) (x : X) (apart : Refuses (first_fault (len_in ls) shown) (Ok x)) where
      none_refuses : (mode_fault (len_in ls) shown ≡ None) × (overlap_fault shown ≡ None)
      none_refuses = both_none (mode_fault (len_in ls) shown) (overlap_fault shown) (refused_none X (first_fault (len_in ls) shown) x apart)

      -- they may stand together, over their sources as they are
      pub shown_cover : mode_fault (len_now (stock hs)) shown ≡ None
      shown_cover = mode_is ∙ none_refuses.0

      pub shown_apart : overlap_fault shown ≡ None
      shown_apart = none_refuses.1

      rest_is : spans_fault s b first removed added ≡ or_else (standing_fault graph b (sources_in [] shown)) last_limit
      rest_is = parts ∙ ap (λ o. or_else o (or_else (standing_fault graph b (sources_in [] shown)) last_limit)) (refused_none X (first_fault (len_in ls) shown) x apart)

      -- the sources are refused
      pub sources_refused : (Z Y : Type 0) (e : PlanFault) → Refuses {X = Z} (standing_fault graph b (sources_in [] shown)) (Err e) → Refuses {X = Y} (spans_fault s b first removed added) (Err e)
      sources_refused Z Y e h = subst (λ o. Refuses {X = Y} o (Err e)) (sym rest_is) (refuses_first Z Y (standing_fault graph b (sources_in [] shown)) last_limit e h)

      -- the limits are left
      pub limits_left : (Z : Type 0) (z : Z) → Refuses (standing_fault graph b (sources_in [] shown)) (Ok z) → spans_fault s b first removed added ≡ last_limit
      limits_left Z z stands = rest_is ∙ ap (λ o. or_else o last_limit) (refused_none Z (standing_fault graph b (sources_in [] shown)) z stands)
