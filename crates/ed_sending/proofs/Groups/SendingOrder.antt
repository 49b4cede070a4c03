-- The order in which an edit passes the carriers: heights fall, and each stands in it once.
use Rattle.std.proofs.Common.{◌≡◌, ℕ, zero, suc, ◌+◌, ◌<◌, ◌≤◌, Bool, true, false, List, [], ◌∷◌, ◌++◌, map, filter, if◌then◌else◌, inl, inr, refl, sym, ap, ◌∙◌, arith, subst}
use Rattle.std.specs.Prelude.{nat_eq, flat_map, reverse, fold, max}
use Rattle.std.specs.List.{range_with_len}
use Rattle.std.proofs.lemmas.Bool.{cases_eq}
use Rattle.std.proofs.lemmas.Bool.Decides.{nat_tests}
use Rattle.std.proofs.lemmas.List.{append-nil, reverse-append}
use Rattle.std.proofs.lemmas.List.Elements.{filter-append}
use Rattle.ed_base.specs.Numbers.{places}
use Rattle.ed_layers.specs.Graph.{graph_order, height_within}
use Rattle.ed_layers.specs.Records.{is_carrier}
use Rattle.ed_stock.specs.Stock as stock
use Rattle.ed_stock.specs.Landing.{carriers_down}
use Rattle.ed_sending.proofs.Lists.SortedParts.{Each, each_append, each_more}
use Rattle.ed_sending.proofs.Texts.PiecesAtGap.{filter_twice}
use Rattle.ed_sending.proofs.Carriers.SentPieces.{flat_through}
use Rattle.ed_sending.proofs.Texts.FilteredText.{filter_keeps}
use Rattle.ed_sending.specs.Ready.{height_now}

reverse-cons : {X : Type 0} (x : X) (xs : List X) → reverse (x ∷ xs) ≡ reverse xs ++ (x ∷ [])
reverse-cons x xs = reverse-append (x ∷ []) xs

module _ (H : ℕ → ℕ) where
  abbrev pub Climbs : List ℕ → Type 0
  Climbs [] = Unit {0}
  Climbs (c ∷ cs) = Each (λ d. H c ≤ H d) cs × Climbs cs

  abbrev pub Falls : List ℕ → Type 0
  Falls [] = Unit {0}
  Falls (c ∷ cs) = Each (λ d. H d ≤ H c) cs × Falls cs

  climbs_append : (xs ys : List ℕ) → Climbs xs → Climbs ys → Each (λ x. Each (λ y. H x ≤ H y) ys) xs → Climbs (xs ++ ys)
  climbs_append [] ys a b c = b
  climbs_append (x ∷ xs) ys a b c = (each_append (λ y. H x ≤ H y) xs ys a.0 c.0, climbs_append xs ys a.1 b c.1)

  falls_append : (xs ys : List ℕ) → Falls xs → Falls ys → Each (λ x. Each (λ y. H y ≤ H x) ys) xs → Falls (xs ++ ys)
  falls_append [] ys a b c = b
  falls_append (x ∷ xs) ys a b c = (each_append (λ y. H y ≤ H x) xs ys a.0 c.0, falls_append xs ys a.1 b c.1)

  each_reverse : (P : ℕ → Type 0) (xs : List ℕ) → Each P xs → Each P (reverse xs)
  each_reverse P [] a = tt
  each_reverse P (x ∷ xs) a = subst (λ z. Each P z) (sym (reverse-cons x xs)) (each_append P (reverse xs) (x ∷ []) (each_reverse P xs a.1) (a.0, tt))

  falls_reverse : (xs : List ℕ) → Climbs xs → Falls (reverse xs)
  falls_reverse [] a = tt
  falls_reverse (x ∷ xs) a = subst Falls (sym (reverse-cons x xs)) (falls_append (reverse xs) (x ∷ []) (falls_reverse xs a.1) (tt, tt) (each_more (λ y. H x ≤ H y) (λ y. Each (λ z. H z ≤ H y) (x ∷ [])) (reverse xs) (λ y h. (h, tt)) (each_reverse (λ y. H x ≤ H y) xs a.0)))

  falls_filter : (f : ℕ → Bool) (xs : List ℕ) → Falls xs → Falls (filter f xs)
  falls_filter f [] a = tt
  falls_filter f (x ∷ xs) a = either (f x) (falls_filter f xs a.1)
    where
      either : (b : Bool) → Falls (filter f xs) → Falls (if b then x ∷ filter f xs else filter f xs)
      either true rest = (filter_keeps (λ d. H d ≤ H x) f xs a.0, rest)
      either false rest = rest

  -- the buffers of one height after another
  level : List ℕ → ℕ → List ℕ
  level ps h = filter (λ b. nat_eq (H b) h) ps

  level_each : (ps : List ℕ) (h : ℕ) → Each (λ b. H b ≡ h) (filter (λ b. nat_eq (H b) h) ps)
  level_each [] h = tt
  level_each (p ∷ ps) h = either (nat_eq (H p) h) refl (level_each ps h)
    where
      either : (b : Bool) → nat_eq (H p) h ≡ b → Each (λ b. H b ≡ h) (filter (λ b. nat_eq (H b) h) ps) → Each (λ b. H b ≡ h) (if b then p ∷ filter (λ b. nat_eq (H b) h) ps else filter (λ b. nat_eq (H b) h) ps)
      either true e rest = ((let f : H p ≡ h = grind (arith, nat_tests) in f), rest)
      either false e rest = rest

  alike_climb : (h : ℕ) (xs : List ℕ) → Each (λ b. H b ≡ h) xs → Climbs xs
  alike_climb h [] a = tt
  alike_climb h (x ∷ xs) a = (each_more (λ b. H b ≡ h) (λ d. H x ≤ H d) xs (λ d e. (let f : H x ≡ h = a.0 in omega arith)) a.1, alike_climb h xs a.1)

  levels_above : (ps : List ℕ) (lo n : ℕ) → Each (λ b. lo ≤ H b) (flat_map (λ h. filter (λ b. nat_eq (H b) h) ps) (range_with_len lo n))
  levels_above ps lo zero = tt
  levels_above ps lo (suc n) = each_append (λ b. lo ≤ H b) (filter (λ b. nat_eq (H b) lo) ps) (flat_map (λ h. filter (λ b. nat_eq (H b) h) ps) (range_with_len (lo + 1) n))
      (each_more (λ b. H b ≡ lo) (λ b. lo ≤ H b) (filter (λ b. nat_eq (H b) lo) ps) (λ b e. omega arith) (level_each ps lo))
      (each_more (λ b. lo + 1 ≤ H b) (λ b. lo ≤ H b) (flat_map (λ h. filter (λ b. nat_eq (H b) h) ps) (range_with_len (lo + 1) n)) (λ b e. omega arith) (levels_above ps (lo + 1) n))

  levels_climb : (ps : List ℕ) (lo n : ℕ) → Climbs (flat_map (λ h. filter (λ b. nat_eq (H b) h) ps) (range_with_len lo n))
  levels_climb ps lo zero = tt
  levels_climb ps lo (suc n) =
      let rest : List ℕ = flat_map (λ h. filter (λ b. nat_eq (H b) h) ps) (range_with_len (lo + 1) n) in
      climbs_append (filter (λ b. nat_eq (H b) lo) ps) rest (alike_climb lo (filter (λ b. nat_eq (H b) lo) ps) (level_each ps lo)) (levels_climb ps (lo + 1) n)
      (each_more (λ b. H b ≡ lo) (λ b. Each (λ y. H b ≤ H y) rest) (filter (λ b. nat_eq (H b) lo) ps) (λ b e. each_more (λ y. lo + 1 ≤ H y) (λ y. H b ≤ H y) rest (λ y l. omega arith) (levels_above ps (lo + 1) n)) (level_each ps lo))

  -- ---- each once

  range_none : (c a n : ℕ) → c < a → filter (λ d. nat_eq d c) (range_with_len a n) ≡ []
  range_none c a zero below = refl
  range_none c a (suc n) below = let e : nat_eq a c ≡ false = grind (arith, nat_tests) in rw e (range_none c (a + 1) n (omega arith))

  pub range_once : (c a n : ℕ) → a ≤ c → c < a + n → filter (λ d. nat_eq d c) (range_with_len a n) ≡ c ∷ []
  range_once c a zero above below = absurd (omega arith)
  range_once c a (suc n) above below = elim (cases_eq a c) [
    | inl same ↦ (let e : nat_eq a c ≡ true = grind (arith, nat_tests) in rw e (ap (λ z. a ∷ z) (range_none c (a + 1) n (omega arith)) ∙ ap (λ z. z ∷ []) same))
    | inr other ↦ (let e : nat_eq a c ≡ false = grind (arith, nat_tests) in rw e (range_once c (a + 1) n (omega arith) (omega arith)))
  ]

  level_none : (c lo n : ℕ) → H c < lo → flat_map (λ h. filter (λ b. nat_eq (H b) h) (c ∷ [])) (range_with_len lo n) ≡ []
  level_none c lo zero below = refl
  level_none c lo (suc n) below = let e : nat_eq (H c) lo ≡ false = grind (arith, nat_tests) in rw e (level_none c (lo + 1) n (omega arith))

  level_once : (c lo n : ℕ) → lo ≤ H c → H c < lo + n → flat_map (λ h. filter (λ b. nat_eq (H b) h) (c ∷ [])) (range_with_len lo n) ≡ c ∷ []
  level_once c lo zero above below = absurd (omega arith)
  level_once c lo (suc n) above below = elim (cases_eq (H c) lo) [
    | inl same ↦ (let e : nat_eq (H c) lo ≡ true = grind (arith, nat_tests) in rw e (ap (λ z. c ∷ z) (level_none c (lo + 1) n (omega arith))))
    | inr other ↦ (let e : nat_eq (H c) lo ≡ false = grind (arith, nat_tests) in rw e (level_once c (lo + 1) n (omega arith) (omega arith)))
  ]

  flat_alike : (f g : ℕ → List ℕ) (xs : List ℕ) → ((x : ℕ) → f x ≡ g x) → flat_map f xs ≡ flat_map g xs
  flat_alike f g [] same = refl
  flat_alike f g (x ∷ xs) same = ap (λ z. z ++ flat_map f xs) (same x) ∙ ap (λ z. g x ++ z) (flat_alike f g xs same)

  levels_once : (c n m : ℕ) → c < n → H c < m → filter (λ d. nat_eq d c) (flat_map (λ h. filter (λ b. nat_eq (H b) h) (places n)) (range_with_len 0 m)) ≡ c ∷ []
  levels_once c n m there low =
      let e : ℕ → Bool = λ d. nat_eq d c in
      flat_through (filter e) (λ h. filter (λ b. nat_eq (H b) h) (places n)) (range_with_len 0 m) refl (λ a b. filter-append e a b)
      ∙ flat_alike (λ h. filter e (filter (λ b. nat_eq (H b) h) (places n))) (λ h. filter (λ b. nat_eq (H b) h) (c ∷ [])) (range_with_len 0 m)
      (λ h. filter_twice e (λ b. nat_eq (H b) h) (places n) ∙ ap (filter (λ b. nat_eq (H b) h)) (range_once c 0 n (omega arith) (omega arith)))
      ∙ level_once c 0 m (omega arith) (omega arith)

filter_reverse : {X : Type 0} (f : X → Bool) (xs : List X) → filter f (reverse xs) ≡ reverse (filter f xs)
filter_reverse f [] = refl
filter_reverse f (x ∷ xs) = ap (filter f) (reverse-cons x xs) ∙ filter-append f (reverse xs) (x ∷ []) ∙ ap (λ z. z ++ filter f (x ∷ [])) (filter_reverse f xs) ∙ either (f x)
  where
    either : (b : Bool) → reverse (filter f xs) ++ (if b then x ∷ [] else []) ≡ reverse (if b then x ∷ filter f xs else filter f xs)
    either true = sym (reverse-cons x (filter f xs))
    either false = append-nil (reverse (filter f xs))

-- heights are no greater than the number of buffers
greatest_within : (n a : ℕ) (xs : List ℕ) → a ≤ n → Each (λ x. x ≤ n) xs → fold max a xs ≤ n
greatest_within n a [] low all = low
greatest_within n a (x ∷ xs) low all = greatest_within n (max a x) xs (omega (arith, all.0)) all.1

pub height_low : (sources : ℕ → List ℕ) (count levels b : ℕ) → height_within sources count levels b ≤ levels
unfolding height_within
height_low sources count zero b = omega arith
height_low sources count (suc levels) b = greatest_within (suc levels) 0 (map (λ s. height_within sources count levels s + 1) (sources b)) (omega arith) (all (λ s. height_low sources count levels s) (sources b))
  where
    all : ((s : ℕ) → height_within sources count levels s ≤ levels) → (xs : List ℕ) → Each (λ x. x ≤ suc levels) (map (λ s. height_within sources count levels s + 1) xs)
    all low [] = tt
    all low (x ∷ xs) = ((let l : height_within sources count levels x ≤ levels = low x in omega arith), all low xs)

pub graph_climbs : (s : stock.Stock) → Climbs (height_now s) (stock.graph_order s)
unfolding graph_order
graph_climbs s = levels_climb (height_now s) (places (stock.count s)) 0 (stock.count s + 1)

pub graph_once : (s : stock.Stock) (c : ℕ) → c < stock.count s → filter (λ d. nat_eq d c) (stock.graph_order s) ≡ c ∷ []
unfolding graph_order
graph_once s c there =
    let low : height_now s c ≤ stock.count s = height_low (stock.sources_now s) (stock.count s) (stock.count s) c in
    levels_once (height_now s) c (stock.count s) (stock.count s + 1) there (omega arith)

pub down_falls : (s : stock.Stock) → Falls (height_now s) (carriers_down s)
down_falls s = falls_filter (height_now s) (λ b. is_carrier (stock.record_now s b)) (reverse (stock.graph_order s)) (falls_reverse (height_now s) (stock.graph_order s) (graph_climbs s))

pub down_once : (s : stock.Stock) (c : ℕ) → c < stock.count s → is_carrier (stock.record_now s c) ≡ true → filter (λ d. nat_eq d c) (carriers_down s) ≡ c ∷ []
down_once s c there carries =
    let e : ℕ → Bool = λ d. nat_eq d c in
    let f : ℕ → Bool = λ b. is_carrier (stock.record_now s b) in
    filter_twice e f (reverse (stock.graph_order s))
    ∙ ap (filter f) (filter_reverse e (stock.graph_order s) ∙ ap reverse (graph_once s c there))
    ∙ (rw carries refl)
