-- The order of a graph: each buffer comes once, behind all that stand lower.
use Rattle.std.proofs.Common.{◌≡◌, ℕ, zero, suc, ◌+◌, ◌<◌, ◌≤◌, Bool, true, false, ◌⊎◌, inl, inr, List, [], ◌∷◌, ◌++◌, refl, sym, ap, ◌∙◌, subst, arith}
use Rattle.std.specs.Prelude.{filter, flat_map, nat_eq}
use Rattle.std.specs.List.{AllByRecursion as Each, range_with_len}
use Rattle.std.proofs.lemmas.Bool.{cases_Bool, cases_eq, eqb-true, eq-eqb}
use Rattle.ed_base.specs.Numbers.{is_among}
use Rattle.ed_layers.specs.Graph.{height, graph_order}
use Rattle.ed_risen.proofs.Lists.{among_front, clash, each_append, among_split}
use Rattle.ed_stock.specs.Stock.{Stock, count, graph_order as stock_order, sources_now}
use Rattle.ed_graph.proofs.Fuel.{within_rounds}

-- ---- lists

among_append : (xs ys : List ℕ) (c : ℕ) → is_among c (xs ++ ys) ≡ true → (is_among c xs ≡ true) ⊎ (is_among c ys ≡ true)
among_append [] ys c h = inr h
among_append (x ∷ xs) ys c h = by (nat_eq c x) refl h (among_append xs ys c)
  where
    by : (t : Bool) → nat_eq c x ≡ t → is_among c (x ∷ (xs ++ ys)) ≡ true → (is_among c (xs ++ ys) ≡ true → (is_among c xs ≡ true) ⊎ (is_among c ys ≡ true)) → (is_among c (x ∷ xs) ≡ true) ⊎ (is_among c ys ≡ true)
    by true t h more = inl (rw t refl)
    by false t h more = elim (more (let e : is_among c (x ∷ (xs ++ ys)) ≡ is_among c (xs ++ ys) = rw t refl in sym e ∙ h)) [ inl i ↦ inl (rw t i) | inr j ↦ inr j ]

among_right : (xs ys : List ℕ) (c : ℕ) → is_among c ys ≡ true → is_among c (xs ++ ys) ≡ true
among_right [] ys c h = h
among_right (x ∷ xs) ys c h = by (nat_eq c x) refl (among_right xs ys c h)
  where
    by : (t : Bool) → nat_eq c x ≡ t → is_among c (xs ++ ys) ≡ true → is_among c (x ∷ (xs ++ ys)) ≡ true
    by true t rest = rw t refl
    by false t rest = rw t rest

pub among_each : (P : ℕ → Type 0) (xs : List ℕ) (c : ℕ) → Each P xs → is_among c xs ≡ true → P c
among_each P [] c all h = absurd (cc)
among_each P (x ∷ xs) c all h = by (nat_eq c x) refl h (among_each P xs c all.1)
  where
    by : (t : Bool) → nat_eq c x ≡ t → is_among c (x ∷ xs) ≡ true → (is_among c xs ≡ true → P c) → P c
    by true t h more = subst P (sym (eqb-true c x t)) all.0
    by false t h more = more (let e : is_among c (x ∷ xs) ≡ is_among c xs = rw t refl in sym e ∙ h)

not_among : (xs : List ℕ) (c : ℕ) → ((is_among c xs ≡ true) → ⊥) → is_among c xs ≡ false
not_among xs c no_way = elim (cases_Bool (is_among c xs)) [ inl i ↦ absurd (no_way i) | inr o ↦ o ]

-- a list that was put together is cut in its first part or in its second
data Cut (xs ws ys : List ℕ) (b : ℕ) (zs : List ℕ) : Type 0 where
  first : (zs' : List ℕ) → xs ≡ ys ++ b ∷ zs' → Cut xs ws ys b zs
  second : (ys' : List ℕ) → ys ≡ xs ++ ys' → ws ≡ ys' ++ b ∷ zs → Cut xs ws ys b zs

cut : (xs ws ys : List ℕ) (b : ℕ) (zs : List ℕ) → xs ++ ws ≡ ys ++ b ∷ zs → Cut xs ws ys b zs
cut [] ws ys b zs h = second ys refl h
cut (x ∷ xs) ws [] b zs h = first xs (let e : x ≡ b = cc in ap (λ y. y ∷ xs) e)
cut (x ∷ xs) ws (y ∷ ys) b zs h = more (cut xs ws ys b zs (cc))
  where
    same : x ≡ y
    same = cc

    more : Cut xs ws ys b zs → Cut (x ∷ xs) ws (y ∷ ys) b zs
    more (first zs' e) = first zs' (ap (λ z. z ∷ xs) same ∙ ap (λ rest. y ∷ rest) e)
    more (second ys' e f) = second ys' (ap (λ rest. y ∷ rest) e ∙ ap (λ z. z ∷ (xs ++ ys')) (sym same)) f

-- ---- buffers of one height

module _ (H : ℕ → ℕ) where
  abbrev level_from : ℕ → ℕ → ℕ → List ℕ
  level_from h p k = filter (λ b. nat_eq (H b) h) (range_with_len p k)

  level_here : (h p k : ℕ) → nat_eq (H p) h ≡ true → level_from h p (suc k) ≡ p ∷ level_from h (p + 1) k
  level_here h p k t = rw t refl

  level_not_here : (h p k : ℕ) → nat_eq (H p) h ≡ false → level_from h p (suc k) ≡ level_from h (p + 1) k
  level_not_here h p k t = rw t refl

  record Rises (h p k : ℕ) (ys : List ℕ) (b : ℕ) : Type 0 where
    below : Each (λ y. (y < b) × (H y ≡ h)) ys
    from : p ≤ b
    to : b < p + k
    is : H b ≡ h

  -- they rise
  level_rises : (h p k : ℕ) (ys : List ℕ) (b : ℕ) (zs : List ℕ) → level_from h p k ≡ ys ++ b ∷ zs → Rises h p k ys b
  level_rises h p zero [] b zs e = absurd (cc)
  level_rises h p zero (y ∷ ys) b zs e = absurd (cc)
  level_rises h p (suc k) ys b zs e = by (nat_eq (H p) h) refl ys e (λ ys e. level_rises h (p + 1) k ys b zs e)
    where
      head_is : (x y : ℕ) (xs ws : List ℕ) → x ∷ xs ≡ y ∷ ws → x ≡ y
      head_is x y xs ws f = cc

      tail_is : (x y : ℕ) (xs ws : List ℕ) → x ∷ xs ≡ y ∷ ws → xs ≡ ws
      tail_is x y xs ws f = cc

      by : (t : Bool) → nat_eq (H p) h ≡ t → (ys : List ℕ) → level_from h p (suc k) ≡ ys ++ b ∷ zs → ((ys : List ℕ) → level_from h (p + 1) k ≡ ys ++ b ∷ zs → Rises h (p + 1) k ys b) → Rises h p (suc k) ys b
      by true t [] e rest =
          let f : p ≡ b = head_is p b (level_from h (p + 1) k) zs (sym (level_here h p k t) ∙ e) in
          record { below = tt; from = omega arith; to = omega arith; is = ap H (sym f) ∙ eqb-true (H p) h t }
      by true t (y ∷ ys) e rest =
          let g : p ∷ level_from h (p + 1) k ≡ y ∷ (ys ++ b ∷ zs) = sym (level_here h p k t) ∙ e in
          let f : p ≡ y = head_is p y (level_from h (p + 1) k) (ys ++ b ∷ zs) g in
          let r : Rises h (p + 1) k ys b = rest ys (tail_is p y (level_from h (p + 1) k) (ys ++ b ∷ zs) g) in
          record { below = ((let l : p + 1 ≤ b = r.from in omega arith, ap H (sym f) ∙ eqb-true (H p) h t), r.below); from = (let l : p + 1 ≤ b = r.from in omega arith); to = (let l : b < p + 1 + k = r.to in omega arith); is = r.is }
      by false t ys e rest =
          let r : Rises h (p + 1) k ys b = rest ys (sym (level_not_here h p k t) ∙ e) in
          record { below = r.below; from = (let l : p + 1 ≤ b = r.from in omega arith); to = (let l : b < p + 1 + k = r.to in omega arith); is = r.is }

  -- all of them are there
  level_all : (h p k c : ℕ) → p ≤ c → c < p + k → H c ≡ h → is_among c (level_from h p k) ≡ true
  level_all h p zero c from to is = absurd (omega arith)
  level_all h p (suc k) c from to is = elim (cases_eq c p) [
    | inl e ↦ (let t : nat_eq (H p) h ≡ true = eq-eqb (H p) h (ap H (sym e) ∙ is) in
        subst (λ xs. is_among c xs ≡ true) (sym (level_here h p k t)) (rw (eq-eqb c p e) refl))
    | inr ne ↦ among_later (nat_eq (H p) h) refl (level_all h (p + 1) k c (omega arith) (omega arith) is)
  ]
    where
      among_later : (t : Bool) → nat_eq (H p) h ≡ t → is_among c (level_from h (p + 1) k) ≡ true → is_among c (level_from h p (suc k)) ≡ true
      among_later true t i = subst (λ xs. is_among c xs ≡ true) (sym (level_here h p k t)) (either (nat_eq c p) refl)
        where
          either : (q : Bool) → nat_eq c p ≡ q → is_among c (p ∷ level_from h (p + 1) k) ≡ true
          either true q = rw q refl
          either false q = rw q i
      among_later false t i = subst (λ xs. is_among c xs ≡ true) (sym (level_not_here h p k t)) i

  level_each : (h p k : ℕ) → Each (λ c. H c ≡ h) (level_from h p k)
  level_each h p zero = tt
  level_each h p (suc k) = by (nat_eq (H p) h) refl (level_each h (p + 1) k)
    where
      by : (t : Bool) → nat_eq (H p) h ≡ t → Each (λ c. H c ≡ h) (level_from h (p + 1) k) → Each (λ c. H c ≡ h) (level_from h p (suc k))
      by true t rest = subst (Each (λ c. H c ≡ h)) (sym (level_here h p k t)) (eqb-true (H p) h t, rest)
      by false t rest = subst (Each (λ c. H c ≡ h)) (sym (level_not_here h p k t)) rest

  -- ---- all heights

  module _ (n : ℕ) where
    abbrev levels : ℕ → ℕ → List ℕ
    levels lo k = flat_map (λ h. level_from h 0 n) (range_with_len lo k)

    pub record Comes (lo k : ℕ) (ys : List ℕ) (b : ℕ) : Type 0 where
      pub there : b < n
      pub from : lo ≤ H b
      pub fresh : is_among b ys ≡ false
      pub lower : (c : ℕ) → c < n → lo ≤ H c → H c < H b → is_among c ys ≡ true
      pub no_higher : Each (λ c. H c ≤ H b) ys
      -- of one height, the lower number comes first
      pub earlier : Each (λ y. H y ≡ H b → y < b) ys

    each_weaker : (P Q : ℕ → Type 0) → ((x : ℕ) → P x → Q x) → (xs : List ℕ) → Each P xs → Each Q xs
    each_weaker P Q step [] h = tt
    each_weaker P Q step (x ∷ xs) h = (step x h.0, each_weaker P Q step xs h.1)

    comes : (lo k : ℕ) (ys : List ℕ) (b : ℕ) (zs : List ℕ) → levels lo k ≡ ys ++ b ∷ zs → Comes lo k ys b
    comes lo zero [] b zs e = absurd (cc)
    comes lo zero (y ∷ ys) b zs e = absurd (cc)
    comes lo (suc k) ys b zs e = by (cut (level_from lo 0 n) (levels (lo + 1) k) ys b zs e) (λ ys' f. comes (lo + 1) k ys' b zs f)
      where
        by : Cut (level_from lo 0 n) (levels (lo + 1) k) ys b zs → ((ys' : List ℕ) → levels (lo + 1) k ≡ ys' ++ b ∷ zs → Comes (lo + 1) k ys' b) → Comes lo (suc k) ys b
        by (first zs' f) more =
            let r : Rises lo 0 n ys b = level_rises lo 0 n ys b zs' f in
            record {
              there = (let l : b < 0 + n = r.to in omega arith);
              from = (let l : H b ≡ lo = r.is in omega arith);
              fresh = not_among ys b (λ i. let l : (b < b) × (H b ≡ lo) = among_each (λ y. (y < b) × (H y ≡ lo)) ys b r.below i in absurd (omega (arith, l.0)));
              lower = λ c there from below. absurd (let l : H b ≡ lo = r.is in omega arith);
              no_higher = each_weaker (λ y. (y < b) × (H y ≡ lo)) (λ y. H y ≤ H b) (λ y both. let l : H b ≡ lo = r.is in omega (arith, both.1)) ys r.below;
              earlier = each_weaker (λ y. (y < b) × (H y ≡ lo)) (λ y. H y ≡ H b → y < b) (λ y both same. both.0) ys r.below;
            }
        by (second ys' f g) more =
            let c : Comes (lo + 1) k ys' b = more ys' g in
            record {
              there = c.there;
              from = (let l : lo + 1 ≤ H b = c.from in omega arith);
              fresh = not_among ys b (λ i. elim (among_append (level_from lo 0 n) ys' b (subst (λ xs. is_among b xs ≡ true) f i)) [
                | inl here ↦ absurd (let l : H b ≡ lo = among_each (λ x. H x ≡ lo) (level_from lo 0 n) b (level_each lo 0 n) here in let m : lo + 1 ≤ H b = c.from in omega arith)
                | inr later ↦ absurd (let o : is_among b ys' ≡ false = c.fresh in clash (is_among b ys') later o)
              ]);
              lower = λ d there from below. elim (cases_eq (H d) lo) [
                | inl at ↦ subst (λ xs. is_among d xs ≡ true) (sym f) (among_front d (level_from lo 0 n) ys' (level_all lo 0 n d (omega arith) (omega arith) at))
                | inr ne ↦ subst (λ xs. is_among d xs ≡ true) (sym f) (among_right (level_from lo 0 n) ys' d (c.lower d there (omega arith) below))
              ];
              no_higher = subst (Each (λ y. H y ≤ H b)) (sym f) (each_append (λ y. H y ≤ H b) (level_from lo 0 n) ys' (each_weaker (λ x. H x ≡ lo) (λ y. H y ≤ H b) (λ y at. let m : lo + 1 ≤ H b = c.from in omega arith) (level_from lo 0 n) (level_each lo 0 n)) c.no_higher);
              earlier = subst (Each (λ y. H y ≡ H b → y < b)) (sym f) (each_append (λ y. H y ≡ H b → y < b) (level_from lo 0 n) ys' (each_weaker (λ x. H x ≡ lo) (λ y. H y ≡ H b → y < b) (λ y at same. let m : lo + 1 ≤ H b = c.from in absurd (omega arith)) (level_from lo 0 n) (level_each lo 0 n)) c.earlier);
            }

    all_come : (lo k c : ℕ) → c < n → lo ≤ H c → H c < lo + k → is_among c (levels lo k) ≡ true
    all_come lo zero c there from to = absurd (omega arith)
    all_come lo (suc k) c there from to = elim (cases_eq (H c) lo) [
      | inl at ↦ among_front c (level_from lo 0 n) (levels (lo + 1) k) (level_all lo 0 n c (omega arith) (omega arith) at)
      | inr ne ↦ among_right (level_from lo 0 n) (levels (lo + 1) k) c (all_come (lo + 1) k c there (omega arith) (omega arith))
    ]

module _ (S : ℕ → List ℕ) (n : ℕ) where
  unfolding_order : graph_order S n ≡ levels (height S n) n 0 (n + 1)
  unfolding graph_order
  unfolding_order = refl

  pub order_comes : (ys : List ℕ) (b : ℕ) (zs : List ℕ) → graph_order S n ≡ ys ++ b ∷ zs → Comes (height S n) n 0 (n + 1) ys b
  order_comes ys b zs e = comes (height S n) n 0 (n + 1) ys b zs (sym unfolding_order ∙ e)

  pub order_all : (c : ℕ) → c < n → height S n c ≤ n → is_among c (graph_order S n) ≡ true
  order_all c there le = subst (λ xs. is_among c xs ≡ true) (sym unfolding_order) (all_come (height S n) n 0 (n + 1) c there (omega arith) (omega arith))

pub in_order : (s : Stock) (c : ℕ) → c < count s → is_among c (stock_order s) ≡ true
in_order s c there = order_all (sources_now s) (count s) c there (within_rounds (sources_now s) (count s) (count s) c)

pub of_order : (s : Stock) (c : ℕ) → is_among c (stock_order s) ≡ true → c < count s
of_order s c i =
    let p : (ys : List ℕ) × (zs : List ℕ) × (stock_order s ≡ ys ++ c ∷ zs) = among_split c (stock_order s) i in
    (order_comes (sources_now s) (count s) p.0 c p.1 p.2).there
