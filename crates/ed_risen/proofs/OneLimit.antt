-- A limit that one buffer alone can pass.
use Rattle.std.proofs.Common.{◌≡◌, ◌≢◌, ℕ, ◌<◌, ◌≤◌, true, ◌⊎◌, inl, inr, List, [], ◌∷◌, map, Some, None, refl, sym, ap, ◌∙◌, subst, ◌^◌, ◌++◌, length, Option, Bool, false}
use Rattle.std.specs.Prelude.{if◌then◌else◌, find, nat_lt, nat_eq, option_map}
use Rattle.std.proofs.lemmas.Bool.{cases_eq, cases_lt, lt-ltb, le-ltb, ne_eqb, eqb-true, eq-eqb}
use Rattle.ed_base.specs.declared.Refusal.{Refusal}
use Rattle.ed_base.specs.declared.Which.{Which}
use Rattle.ed_base.specs.Numbers.{is_among, first_some}
use Rattle.ed_stock.specs.Limits.{over, some_over, inserted, versions, placements, stock_limits}
use Rattle.ed_risen.proofs.Lists.{among_more, among_itself}
use Rattle.std.specs.List.{AllByRecursion as Each}
use Rattle.ed_layers.specs.Records.{members_of}
use Rattle.ed_stock.specs.Stock.{Stock, count, graph_order, record_now, text_now}

module _ (which : Which) (most : ℕ) (f : ℕ → ℕ) (b : ℕ) where
  others_rest : (x : ℕ) (xs : List ℕ) → ((c : ℕ) → c ≢ b → is_among c (x ∷ xs) ≡ true → f c ≤ most) → (c : ℕ) → c ≢ b → is_among c xs ≡ true → f c ≤ most
  others_rest x xs h c ne i = h c ne (among_more x c xs i)

  none_over : f b ≤ most → (xs : List ℕ) → ((c : ℕ) → c ≢ b → is_among c xs ≡ true → f c ≤ most) → some_over which most (map f xs) ≡ None
  none_over le [] h = refl
  none_over le (x ∷ xs) h = rw (le-ltb most (f x) (at (cases_eq x b))) (none_over le xs (others_rest x xs h))
    where
      at : (x ≡ b) ⊎ (x ≢ b) → f x ≤ most
      at (inl e) = subst (λ c. f c ≤ most) (sym e) le
      at (inr ne) = h x ne (among_itself x xs)

  one_over : most < f b → (xs : List ℕ) → is_among b xs ≡ true → ((c : ℕ) → c ≢ b → is_among c xs ≡ true → f c ≤ most) → some_over which most (map f xs) ≡ Some (Refusal.Limit which (f b))
  one_over l [] i h = absurd (cc)
  one_over l (x ∷ xs) i h = by (cases_eq x b) (one_over l xs)
    where
      by : (x ≡ b) ⊎ (x ≢ b) → (is_among b xs ≡ true → ((c : ℕ) → c ≢ b → is_among c xs ≡ true → f c ≤ most) → some_over which most (map f xs) ≡ Some (Refusal.Limit which (f b))) → some_over which most (map f (x ∷ xs)) ≡ Some (Refusal.Limit which (f b))
      by (inl e) more = rw (lt-ltb most (f x) (subst (λ c. most < f c) (sym e) l)) (ap (λ c. Some (Refusal.Limit which (f c))) e)
      by (inr ne) more =
          let in_rest : is_among b xs ≡ true = (let e : is_among b (x ∷ xs) ≡ is_among b xs = rw (ne_eqb b x (λ e. ne (sym e))) refl in sym e ∙ i) in
          rw (le-ltb most (f x) (h x ne (among_itself x xs))) (more in_rest (others_rest x xs h))

  -- so the first that passes it is that one, or none
  pub only_over : (xs : List ℕ) → is_among b xs ≡ true → ((c : ℕ) → c ≢ b → is_among c xs ≡ true → f c ≤ most) → some_over which most (map f xs) ≡ over which most (f b)
  only_over xs i h = elim (cases_lt most (f b)) [
    | inl l ↦ one_over l xs i h ∙ sym (ap (λ t. if t then Some (Refusal.Limit which (f b)) else None) (lt-ltb most (f b) l))
    | inr le ↦ none_over le xs h ∙ sym (ap (λ t. if t then Some (Refusal.Limit which (f b)) else None) (le-ltb most (f b) le))
  ]

pub found_long : (f : ℕ → ℕ) (passed rest : List ℕ) (b len : ℕ) → Each (λ c. f c ≤ 2 ^ 22) passed → f b ≡ len → 2 ^ 22 < len → find (nat_lt (2 ^ 22)) (map f (passed ++ b ∷ rest)) ≡ Some len
found_long f [] rest b len short is long = rw (is, lt-ltb (2 ^ 22) len long) refl
found_long f (x ∷ xs) rest b len short is long = rw (le-ltb (2 ^ 22) (f x) short.0) (found_long f xs rest b len short.1 is long)

pub first_long : (s : Stock) (passed rest : List ℕ) (b len : ℕ) → over Which.Buffers s.most_buffers (count s) ≡ None → graph_order s ≡ passed ++ b ∷ rest → Each (λ c. length (text_now s c) ≤ 2 ^ 22) passed → length (text_now s b) ≡ len → 2 ^ 22 < len
    → first_some (stock_limits s) ≡ Some (Refusal.Limit Which.Units len)
first_long s passed rest b len few order short is long =
    let found : some_over Which.Units (2 ^ 22) (map (λ c. length (text_now s c)) (graph_order s)) ≡ Some (Refusal.Limit Which.Units len) =
    ap (λ xs. some_over Which.Units (2 ^ 22) (map (λ c. length (text_now s c)) xs)) order ∙ ap (option_map (Refusal.Limit Which.Units)) (found_long (λ c. length (text_now s c)) passed rest b len short is long) in
    by (over Which.Buffers s.most_buffers (count s)) (some_over Which.Units (2 ^ 22) (map (λ c. length (text_now s c)) (graph_order s))) (over Which.Inserted (2 ^ 27) (inserted s) ∷ over Which.Versions s.most_versions (versions s) ∷ some_over Which.Members 1024 (map (λ b'. length (members_of (record_now s b'))) (graph_order s)) ∷ over Which.Placements (2 ^ 26) (placements s) ∷ []) few found
  where
    by : (x y : Option Refusal) (zs : List (Option Refusal)) → x ≡ None → y ≡ Some (Refusal.Limit Which.Units len) → first_some (x ∷ y ∷ zs) ≡ Some (Refusal.Limit Which.Units len)
    by x y zs e f = rw (e, f) refl

pub none_of : (which : Which) (most : ℕ) (ns : List ℕ) → some_over which most ns ≡ None → find (nat_lt most) ns ≡ None
none_of which most ns h = by (find (nat_lt most) ns) refl
  where
    by : (o : Option ℕ) → find (nat_lt most) ns ≡ o → o ≡ None
    by None is = refl
    by (Some m) is = absurd (let e : option_map (Refusal.Limit which) (find (nat_lt most) ns) ≡ Some (Refusal.Limit which m) = ap (option_map (Refusal.Limit which)) is in let g : Some (Refusal.Limit which m) ≡ None = sym e ∙ h in cc)

-- where none is there, each isn't
pub each_none : (os : List (Option Refusal)) → first_some os ≡ None → Each (λ o. o ≡ None) os
each_none [] h = tt
each_none (None ∷ os) h = (refl, each_none os h)
each_none (Some r ∷ os) h = absurd (cc)

module _ (most : ℕ) (f : ℕ → ℕ) where
  pub none_past : (xs : List ℕ) (c : ℕ) → find (nat_lt most) (map f xs) ≡ None → is_among c xs ≡ true → nat_lt most (f c) ≡ false
  none_past [] c h i = absurd (cc)
  none_past (x ∷ xs) c h i = by (nat_lt most (f x)) refl h (none_past xs c)
    where
      later : (q : Bool) → nat_eq c x ≡ q → nat_lt most (f x) ≡ false → find (nat_lt most) (map f xs) ≡ None → (find (nat_lt most) (map f xs) ≡ None → is_among c xs ≡ true → nat_lt most (f c) ≡ false) → nat_lt most (f c) ≡ false
      later true q t rest more = ap (λ y. nat_lt most (f y)) (eqb-true c x q) ∙ t
      later false q t rest more = more rest (let e : is_among c (x ∷ xs) ≡ is_among c xs = rw q refl in sym e ∙ i)

      by : (t : Bool) → nat_lt most (f x) ≡ t → (if t then Some (f x) else find (nat_lt most) (map f xs)) ≡ None → (find (nat_lt most) (map f xs) ≡ None → is_among c xs ≡ true → nat_lt most (f c) ≡ false) → nat_lt most (f c) ≡ false
      by true t h more = absurd (cc)
      by false t h more = later (nat_eq c x) refl t h more

  pub all_within : (xs : List ℕ) → ((c : ℕ) → is_among c xs ≡ true → nat_lt most (f c) ≡ false) → find (nat_lt most) (map f xs) ≡ None
  all_within [] h = refl
  all_within (x ∷ xs) h = rw (h x (rw (same x) refl)) (all_within xs (λ c i. h c (either c (nat_eq c x) refl i)))
    where
      same : (y : ℕ) → nat_eq y y ≡ true
      same y = eq-eqb y y refl

      either : (c : ℕ) (q : Bool) → nat_eq c x ≡ q → is_among c xs ≡ true → is_among c (x ∷ xs) ≡ true
      either c true q i = rw q refl
      either c false q i = rw q i
