-- What a graph keeps agrees with its sources: when it is built, when it grows and when a buffer is linked.
use Rattle.std.proofs.Common.{◌≡◌, ◌≢◌, ℕ, zero, suc, ◌+◌, ◌-◌, ◌^◌, ◌<◌, ◌≤◌, Bool, false, cond, inl, inr, List, [], ◌∷◌, ◌++◌, length, map, fold, max, refl, sym, ◌∙◌, ap, subst, arith, Some, None, lit<}
use Rattle.std.proofs.lemmas.Bool.{cases_Bool, cases_lt, ne_eqb, lt-ltb}
use Rattle.std.proofs.lemmas.List.{append-nil, get_or_past, get_or-set_same, get_or-set_other, length-set, length_push}
use Rattle.std.proofs.lemmas.List.Elements.{recursion_from_All, All-from_recursion, All-get_or, All-set, All-push, All-weaker, All-nil}
use Rattle.std.proofs.lemmas.List.Concat.{flat_map-append}
use Rattle.std.specs.Prelude.{nat_eq, nat_lt, slice_index, find, All, option_map}
use Rattle.std.specs.List.{AllByRecursion as Each, filter, flat_map, range_with_len}
use Rattle.ed_base.specs.Numbers.{places, or_else}
use Rattle.ed_layers.specs.Graph.{height_within, reaches_within, graph_order, greatest_height}
use Rattle.ed_graph.specs.Standing.{sources_in, height_in, reaches_in, order_in, greatest_in, heights_in, rows_in, linked, first_cycle, link_fault, AreWithin, IsLevelled}
use Rattle.ed_graph.specs.declared.fault.LinkFault.{LinkFault}
use Rattle.ed_graph.specs.Rounds.{cell_in, rows_after, at_height, up_to_height}
use Rattle.ed_graph.specs.Kept.{IsKept}
use Rattle.ed_graph.proofs.Lists.{each, each_weaker, map_agree, each_below, greatest_within}
use Rattle.ed_graph.proofs.Fuel.{same_heights, within_rounds, found}
use Rattle.ed_graph.proofs.RoundLemmas.{each_place, cells_at, heights_at, length-heights_after}
use Rattle.ed_graph.proofs.Levels.{lower, no_way_back, same_reaching, rank_over, rank_over_sources}

-- ---- sources

at_from : (P : ℕ → Type 0) (n a b : ℕ) → Each P (range_with_len a n) → a ≤ b → b < a + n → P b
at_from P zero a b e low high = absurd (omega arith)
at_from P (suc n) a b e low high =
    elim (cases_lt a b) [ inl l ↦ at_from P n (a + 1) b e.1 (omega arith) (omega arith) | inr g ↦ subst P (let same : a ≡ b = omega arith in same) e.0 ]

at_place : (P : ℕ → Type 0) (n b : ℕ) → Each P (places n) → b < n → P b
at_place P n b e h = at_from P n 0 b e (omega arith) (omega arith)

past_all : (g : List (List ℕ)) (b : ℕ) → length g ≤ b → sources_in g b ≡ []
past_all g b h = get_or_past g b [] h

each_within : (g : List (List ℕ)) → AreWithin g → (b : ℕ) → Each (λ s. s < length g) (sources_in g b)
each_within g within b =
    elim (cases_lt b (length g)) [
      | inl h ↦ recursion_from_All (λ s. s < length g) (sources_in g b) (All-get_or (All (λ s. s < length g)) g b [] h within)
      | inr h ↦ subst (Each (λ s. s < length g)) (sym (past_all g b h)) tt
    ]

each_lower : (g : List (List ℕ)) → IsLevelled g → (b : ℕ) → Each (λ s. height_in g s < height_in g b) (sources_in g b)
each_lower g l b = recursion_from_All (λ s. height_in g s < height_in g b) (sources_in g b) (l.lower b)

-- ---- heights

each_height : (g : List (List ℕ)) → Each (λ b. height_in g b ≤ greatest_in g) (places (length g))
unfolding greatest_height
each_height g = each_below (height_in g) (places (length g)) 0

pub greatest_is : (g : List (List ℕ)) → fold max 0 (heights_in g) ≡ greatest_in g
unfolding greatest_height
greatest_is g = refl

pub height_at : (g : List (List ℕ)) (b : ℕ) → b < length g → slice_index (heights_in g) b ≡ height_in g b
height_at g b h = heights_at (length g) g b h

pub height_below_greatest : (g : List (List ℕ)) (b : ℕ) → b < length g → height_in g b ≤ greatest_in g
height_below_greatest g b h = at_place (λ c. height_in g c ≤ greatest_in g) (length g) b (each_height g) h

no_height : (S : ℕ → List ℕ) (n k b : ℕ) → S b ≡ [] → height_within S n k b ≡ 0
unfolding height_within
no_height S n zero b e = refl
no_height S n (suc k) b e = ap (λ ss. fold max 0 (map (λ s. height_within S n k s + 1) ss)) e

all_shallow : (g : List (List ℕ)) → IsLevelled g → (b : ℕ) → height_in g b ≤ 8
all_shallow g l b =
    elim (cases_lt b (length g)) [
      | inl h ↦ (let le : height_in g b ≤ greatest_in g = height_below_greatest g b h in let few : greatest_in g ≤ 8 = l.shallow in omega arith)
      | inr h ↦ (let e : height_in g b ≡ 0 = no_height (sources_in g) (length g) (length g) b (past_all g b h) in omega arith)
    ]

pub greatest_from_each : (g : List (List ℕ)) (m : ℕ) → ((b : ℕ) → height_in g b ≤ m) → greatest_in g ≤ m
unfolding greatest_height
greatest_from_each g m all = greatest_within (height_in g) m (places (length g)) (each (λ b. height_in g b ≤ m) all (places (length g))) 0 (omega arith)

-- ---- what is built

pub rows_found : (g : List (List ℕ)) → IsLevelled g → rows_after g (greatest_in g) ≡ rows_in g
rows_found g l =
    map_agree (λ from. map (reaches_within (sources_in g) (length g) (greatest_in g) from) (places (length g))) (λ from. map (reaches_in g from) (places (length g))) (places (length g))
    (each_weaker (λ from. height_in g from ≤ greatest_in g) _ (λ from le. map_agree (reaches_within (sources_in g) (length g) (greatest_in g) from) (reaches_in g from) (places (length g))
    (each _ (λ to. same_reaching (sources_in g) (length g) (each_lower g l) (greatest_in g) from to le (within_rounds (sources_in g) (length g) (length g) from)) (places (length g))))
    (places (length g)) (each_height g))

filter_agree_on : (p q : ℕ → Bool) (xs : List ℕ) → Each (λ x. p x ≡ q x) xs → filter p xs ≡ filter q xs
filter_agree_on p q [] e = refl
filter_agree_on p q (x ∷ xs) e = ap (λ b. cond b (x ∷ filter p xs) (filter p xs)) e.0 ∙ ap (λ ys. cond (q x) (x ∷ ys) ys) (filter_agree_on p q xs e.1)

filter_none : (p : ℕ → Bool) (xs : List ℕ) → Each (λ x. p x ≡ false) xs → filter p xs ≡ []
filter_none p [] e = refl
filter_none p (x ∷ xs) e = ap (λ b. cond b (x ∷ filter p xs) (filter p xs)) e.0 ∙ filter_none p xs e.1

flat_map_agree_on : (f f' : ℕ → List ℕ) (xs : List ℕ) → ((x : ℕ) → f x ≡ f' x) → flat_map f xs ≡ flat_map f' xs
flat_map_agree_on f f' [] e = refl
flat_map_agree_on f f' (x ∷ xs) e = ap (λ ys. ys ++ flat_map f xs) (e x) ∙ ap (λ ys. f' x ++ ys) (flat_map_agree_on f f' xs e)

flat_map_none : (f : ℕ → List ℕ) (n a : ℕ) → ((x : ℕ) → a ≤ x → f x ≡ []) → flat_map f (range_with_len a n) ≡ []
flat_map_none f zero a e = refl
flat_map_none f (suc n) a e = ap (λ ys. ys ++ flat_map f (range_with_len (a + 1) n)) (e a (omega arith)) ∙ flat_map_none f n (a + 1) (λ x h. e x (omega arith))

range_split : (n m a : ℕ) → range_with_len a (n + m) ≡ range_with_len a n ++ range_with_len (a + n) m
range_split zero m a = ap (λ i. range_with_len a i) (let e : 0 + m ≡ m = omega arith in e) ∙ ap (λ i. range_with_len i m) (let e : a ≡ a + 0 = omega arith in e)
range_split (suc n) m a =
    ap (λ i. range_with_len a i) (let e : suc n + m ≡ suc (n + m) = omega arith in e)
    ∙ ap (λ xs. a ∷ xs) (range_split n m (a + 1) ∙ ap (λ i. range_with_len (a + 1) n ++ range_with_len i m) (let e : (a + 1) + n ≡ a + suc n = omega arith in e))

of_height : List (List ℕ) → ℕ → List ℕ
of_height g h = filter (λ b. nat_eq (height_in g b) h) (places (length g))

none_higher : (g : List (List ℕ)) (h : ℕ) → greatest_in g + 1 ≤ h → of_height g h ≡ []
unfolding of_height
none_higher g h above =
    filter_none (λ b. nat_eq (height_in g b) h) (places (length g))
    (each_weaker (λ b. height_in g b ≤ greatest_in g) _ (λ b le. ne_eqb (height_in g b) h (λ e. omega arith)) (places (length g)) (each_height g))

same_of_height : (g : List (List ℕ)) (h : ℕ) → at_height (heights_in g) h ≡ of_height g h
unfolding of_height
same_of_height g h =
    ap (λ n. filter (λ b. nat_eq (slice_index (heights_in g) b) h) (places n)) (length-heights_after (length g) g)
    ∙ filter_agree_on (λ b. nat_eq (slice_index (heights_in g) b) h) (λ b. nat_eq (height_in g b) h) (places (length g))
    (each_weaker (λ b. b < length g) _ (λ b there. ap (λ x. nat_eq x h) (height_at g b there)) (places (length g)) (each_place (length g)))

greatest_within_count : (g : List (List ℕ)) → greatest_in g ≤ length g
greatest_within_count g = greatest_from_each g (length g) (λ b. within_rounds (sources_in g) (length g) (length g) b)

pub order_found : (g : List (List ℕ)) → up_to_height (heights_in g) (greatest_in g) ≡ order_in g
unfolding graph_order of_height
order_found g =
    let few : greatest_in g ≤ length g = greatest_within_count g in
    flat_map_agree_on (at_height (heights_in g)) (of_height g) (places (greatest_in g + 1)) (same_of_height g)
    ∙ (sym (append-nil (flat_map (of_height g) (places (greatest_in g + 1))))
    ∙ (ap (λ xs. flat_map (of_height g) (places (greatest_in g + 1)) ++ xs) (sym (flat_map_none (of_height g) (length g - greatest_in g) (0 + (greatest_in g + 1)) (λ h above. none_higher g h (omega arith))))
    ∙ (sym (flat_map-append (of_height g) (places (greatest_in g + 1)) (range_with_len (0 + (greatest_in g + 1)) (length g - greatest_in g)))
    ∙ (ap (flat_map (of_height g)) (sym (range_split (greatest_in g + 1) (length g - greatest_in g) 0))
    ∙ ap (λ n. flat_map (of_height g) (places n)) (let e : (greatest_in g + 1) + (length g - greatest_in g) ≡ length g + 1 = omega arith in e)))))

-- ---- levels

levelled : (g : List (List ℕ)) → AreWithin g → ((b : ℕ) → Each (λ s. height_in g s < height_in g b) (sources_in g b)) → greatest_in g ≤ 8 → IsLevelled g
levelled g within low shallow = record {
  within = within;
  lower = λ b. All-from_recursion (λ s. height_in g s < height_in g b) (sources_in g b) (low b);
  no_cycle = λ b. All-from_recursion (λ s. reaches_in g s b ≡ false) (sources_in g b) (no_way_back (sources_in g) (length g) low b);
  shallow = shallow;
}

ranked_lower : (g : List (List ℕ)) → AreWithin g → (r : ℕ → ℕ) → ((b : ℕ) → Each (λ s. r s < r b) (sources_in g b)) → (b : ℕ) → Each (λ s. height_in g s < height_in g b) (sources_in g b)
ranked_lower g within r ranked = lower (sources_in g) (length g) r ranked (each_within g within) (past_all g)

pub levelled_empty : IsLevelled []
levelled_empty = levelled [] (All-nil (All (λ s. s < 0))) (λ b. tt) (greatest_from_each [] 8 (λ b. let h : height_in [] b ≤ 0 = within_rounds (sources_in []) 0 0 b in omega arith))

-- one buffer more
sources-push : (g : List (List ℕ)) (b : ℕ) → sources_in g b ≡ sources_in (g ++ [] ∷ []) b
sources-push [] zero = refl
sources-push [] (suc b) = refl
sources-push (ss ∷ g) zero = refl
sources-push (ss ∷ g) (suc b) = sources-push g b

within-push : (g : List (List ℕ)) → AreWithin g → AreWithin (g ++ [] ∷ [])
within-push g within =
    All-push (All (λ s. s < length (g ++ [] ∷ []))) g []
    (All-weaker (All (λ s. s < length g)) (All (λ s. s < length (g ++ [] ∷ []))) (λ ss h. All-weaker (λ s. s < length g) (λ s. s < length (g ++ [] ∷ [])) (λ s low. let e : length (g ++ [] ∷ []) ≡ length g + 1 = length_push g [] in omega arith) ss h) g within)
    (All-nil (λ s. s < length (g ++ [] ∷ [])))

height-push : (g : List (List ℕ)) → IsLevelled g → (b : ℕ) → height_in (g ++ [] ∷ []) b ≡ height_in g b
height-push g l b =
    let longer : length (g ++ [] ∷ []) ≡ length g + 1 = length_push g [] in
    let few : height_in g b ≤ length g = within_rounds (sources_in g) (length g) (length g) b in
    sym (same_heights (sources_in g) (sources_in (g ++ [] ∷ [])) (length g) (length (g ++ [] ∷ [])) (sources-push g) (length (g ++ [] ∷ [])) b)
    ∙ (found (sources_in g) (length g) (height_in g) (each_lower g l) (length (g ++ [] ∷ [])) b (omega arith)
    ∙ sym (found (sources_in g) (length g) (height_in g) (each_lower g l) (length g) b few))

pub levelled-push : (g : List (List ℕ)) → IsLevelled g → IsLevelled (g ++ [] ∷ [])
levelled-push g l =
    levelled (g ++ [] ∷ []) (within-push g l.within)
    (ranked_lower (g ++ [] ∷ []) (within-push g l.within) (height_in g) (λ b. subst (Each (λ s. height_in g s < height_in g b)) (sources-push g b) (each_lower g l b)))
    (greatest_from_each (g ++ [] ∷ []) 8 (λ b. let e : height_in (g ++ [] ∷ []) b ≡ height_in g b = height-push g l b in let le : height_in g b ≤ 8 = all_shallow g l b in omega arith))

-- other sources for a buffer
each_failed : (p : ℕ → Bool) (xs : List ℕ) → find p xs ≡ None → Each (λ x. p x ≡ false) xs
each_failed p [] e = tt
each_failed p (x ∷ xs) e =
    elim (cases_Bool (p x)) [
      | inl t ↦ absurd (let w : Some x ≡ None = ap (λ b. cond b (Some x) (find p xs)) (sym t) ∙ e in cc)
      | inr f ↦ (f, each_failed p xs (ap (λ b. cond b (Some x) (find p xs)) (sym f) ∙ e))
    ]

pub within-linked : (g : List (List ℕ)) (x : ℕ) (ss : List ℕ) → AreWithin g → All (λ s. s < length g) ss → AreWithin (linked g x ss)
within-linked g x ss within there =
    subst (λ n. All (All (λ s. s < n)) (linked g x ss)) (sym (length-set g x ss)) (All-set (All (λ s. s < length g)) g x ss there within)

pub levelled-linked : (g : List (List ℕ)) (x : ℕ) (ss : List ℕ) → IsLevelled g → x < length g → All (λ s. s < length g) ss → first_cycle g x ss ≡ None → greatest_in (linked g x ss) ≤ 8 → IsLevelled (linked g x ss)
levelled-linked g x ss l here there acyclic shallow =
    levelled (linked g x ss) (within-linked g x ss l.within there)
    (ranked_lower (linked g x ss) (within-linked g x ss l.within there) (rank_over (sources_in g) (length g) (each_lower g l) (sources_in (linked g x ss)) x others none_reaches)
    (rank_over_sources (sources_in g) (length g) (each_lower g l) (sources_in (linked g x ss)) x others none_reaches))
    shallow
  where
    others : (b : ℕ) → b ≢ x → sources_in (linked g x ss) b ≡ sources_in g b
    others b ne = get_or-set_other g x b ss [] ne

    none_reaches : Each (λ s. reaches_in g s x ≡ false) (sources_in (linked g x ss) x)
    none_reaches = subst (Each (λ s. reaches_in g s x ≡ false)) (sym (get_or-set_same g x ss [] here)) (each_failed (λ s. reaches_in g s x) ss acyclic)

-- ---- as the code has them

pub top_is : (g : List (List ℕ)) (hs ds : List ℕ) (top : ℕ) → top ≡ fold max 0 ds → ds ≡ hs → hs ≡ heights_in g → top ≡ greatest_in g
top_is g hs ds top found same agree = found ∙ (ap (fold max 0) (same ∙ agree) ∙ greatest_is g)

pub top_fits : (g : List (List ℕ)) (top : ℕ) → IsLevelled g → top ≡ greatest_in g → top + 1 < 2 ^ 32
top_fits g top l e = let low : greatest_in g ≤ 8 = l.shallow in omega arith

pub kept : (g : List (List ℕ)) (hs : List ℕ) (rows : List (List Bool)) (order : List ℕ) (top : ℕ) → length g < 2 ^ 32 → IsLevelled g → hs ≡ heights_in g → top ≡ greatest_in g → rows ≡ rows_after g top → order ≡ up_to_height hs top → IsKept g hs rows order
kept g hs rows order top few l heights e rows_are order_is = record {
  few = few;
  levelled = l;
  heights_agree = heights;
  rows_agree = rows_are ∙ (ap (rows_after g) e ∙ rows_found g l);
  order_agrees = order_is ∙ (ap (λ xs. up_to_height xs top) heights ∙ (ap (up_to_height (heights_in g)) e ∙ order_found g));
}

pub heights_few : (g : List (List ℕ)) (hs : List ℕ) → length g < 2 ^ 32 → hs ≡ heights_in g → length hs < 2 ^ 32
heights_few g hs few e = let l : length hs ≡ length g = ap length e ∙ length-heights_after (length g) g in omega arith

pub record HeightKept (g : List (List ℕ)) (ds : List ℕ) (b : ℕ) : Type 0 where
  pub there : b < length ds
  pub height : slice_index ds b ≡ height_in g b
  pub shallow : slice_index ds b ≤ 8

pub height_kept : (g self : List (List ℕ)) (hs : List ℕ) (rows : List (List Bool)) (order ds : List ℕ) (b : ℕ) → IsKept g hs rows order → g ≡ self → ds ≡ hs → b < length self → HeightKept self ds b
height_kept g self hs rows order ds b k e d h =
    let same : ds ≡ heights_in g = d ∙ k.heights_agree in
    let here : b < length g = let l : length g ≡ length self = ap length e in omega arith in
    let found : slice_index ds b ≡ height_in g b = ap (λ xs. slice_index xs b) same ∙ height_at g b here in
    record {
      there = (let l : length ds ≡ length g = ap length same ∙ length-heights_after (length g) g in omega arith);
      height = found ∙ ap (λ x. height_in x b) e;
      shallow = (let le : height_in g b ≤ 8 = all_shallow g k.levelled b in omega arith);
    }

pub reaches_kept : (g self : List (List ℕ)) (hs : List ℕ) (rows ds : List (List Bool)) (order : List ℕ) (from to : ℕ) → IsKept g hs rows order → g ≡ self → ds ≡ rows → from < length self → to < length self → cell_in ds from to ≡ reaches_in self from to
reaches_kept g self hs rows ds order from to k e d h h' =
    let l : length g ≡ length self = ap length e in
    ap (λ x. cell_in x from to) (d ∙ k.rows_agree) ∙ (cells_at (length g) g from to (omega arith) (omega arith) ∙ ap (λ x. reaches_in x from to) e)

pub depth_fault : (g : List (List ℕ)) (b : ℕ) (ss : List ℕ) (h : ℕ) → first_cycle g b ss ≡ None → h ≡ greatest_in (linked g b ss) → 8 < h → link_fault g b ss ≡ Some (LinkFault.Depth h)
depth_fault g b ss h acyclic e above =
    ap (λ o. or_else (option_map LinkFault.Cycle o) (cond (nat_lt 8 (greatest_in (linked g b ss))) (Some (LinkFault.Depth (greatest_in (linked g b ss)))) None)) acyclic
    ∙ (ap (λ n. cond (nat_lt 8 n) (Some (LinkFault.Depth n)) None) (sym e) ∙ ap (λ t. cond t (Some (LinkFault.Depth h)) None) (lt-ltb 8 h above))

-- the graph without buffers
pub kept_empty : IsKept [] [] [] []
unfolding graph_order
kept_empty = record {
  few = lit< tt;
  levelled = levelled_empty;
  heights_agree = refl;
  rows_agree = refl;
  order_agrees = refl;
}
