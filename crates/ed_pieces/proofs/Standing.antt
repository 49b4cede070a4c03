-- A stable sort by start, side and last pair has at each gap the order of its texts.
use Rattle.std.proofs.Common.{◌≡◌, Bool, true, false, not, ◌&&◌, List, [], ◌∷◌, refl, sym, ap, ◌∙◌, inl, inr}
use Rattle.std.specs.Prelude.{filter}
use Rattle.std.proofs.lemmas.Bool.{cases_Bool}
use Rattle.ed_base.specs.Sorting.{placed_in, sorted_by}

-- neither stands before the other
abbrev pub level : {X : Type 0} → (X → X → Bool) → X → X → Bool
level before x y = not (before x y) && not (before y x)

-- x stands behind none of these
abbrev pub NoneBefore : {X : Type 0} → (X → X → Bool) → X → List X → Type 0
NoneBefore before x [] = Unit {0}
NoneBefore before x (y ∷ ys) = (before y x ≡ false) × NoneBefore before x ys

abbrev pub Stands : {X : Type 0} → (X → X → Bool) → List X → Type 0
Stands before [] = Unit {0}
Stands before (x ∷ xs) = NoneBefore before x xs × Stands before xs

module _ {X : Type 0} (before : X → X → Bool) (never : (x : X) → before x x ≡ false) (chain : (x y z : X) → before y x ≡ false → before z y ≡ false → before z x ≡ false) where
  none_chain : (x y : X) (ys : List X) → before y x ≡ false → NoneBefore before y ys → NoneBefore before x ys
  none_chain x y [] h a = tt
  none_chain x y (z ∷ zs) h a = (chain x y z h a.0, none_chain x y zs h a.1)

  level_self : (x : X) → level before x x ≡ true
  level_self x = rw (never x) refl

  -- what is level with x is gone where x stands before all
  level_gone : (x y : X) (ys : List X) → before x y ≡ true → NoneBefore before y ys → filter (level before x) ys ≡ []
  level_gone x y [] h a = refl
  level_gone x y (z ∷ zs) h a =
      let t : before x z ≡ true = (elim (cases_Bool (before x z)) [
        | inl t ↦ t
        | inr f ↦ absurd (let e : before x y ≡ false = chain y z x a.0 f in let w : true ≡ false = sym h ∙ e in cc)
      ]) in
      rw t (level_gone x y zs h a.1)

  -- lists in order that are the same at each level are the same
  pub same_list : (xs ys : List X) → Stands before xs → Stands before ys → ((x : X) → filter (level before x) xs ≡ filter (level before x) ys) → xs ≡ ys
  same_list [] [] s t h = refl
  same_list [] (y ∷ ys) s t h = absurd (let e : [] ≡ y ∷ filter (level before y) ys = rw (never y) at (h y) in cc)
  same_list (x ∷ xs) [] s t h = absurd (let e : x ∷ filter (level before x) xs ≡ [] = rw (never x) at (h x) in cc)
  same_list (x ∷ xs) (y ∷ ys) s t h = first (before x y) refl (before y x) refl (same_list xs ys s.1 t.1)
    where
      heads : {Y : Type 0} (a b : Y) (us vs : List Y) → a ∷ us ≡ b ∷ vs → (a ≡ b) × (us ≡ vs)
      heads a b us vs e = (cc, cc)

      first : (b : Bool) → before x y ≡ b → (c : Bool) → before y x ≡ c → (((z : X) → filter (level before z) xs ≡ filter (level before z) ys) → xs ≡ ys) → x ∷ xs ≡ y ∷ ys
      first true e c f more = absurd (let w : x ∷ filter (level before x) xs ≡ [] = rw (never x, e, level_gone x y ys e t.0) at (h x) in cc)
      first false e true f more = absurd (let w : [] ≡ y ∷ filter (level before y) ys = rw (never y, f, level_gone y x xs f s.0) at (h y) in cc)
      first false e false f more =
          let w : x ∷ filter (level before x) xs ≡ y ∷ filter (level before x) ys = rw (never x, e, f) at (h x) in
          let is : x ≡ y = (heads x y (filter (level before x) xs) (filter (level before x) ys) w).0 in
          let rest : (z : X) → filter (level before z) xs ≡ filter (level before z) ys = λ z. tail z (level before z x) refl (level before z y) refl (ap (λ v. level before z v) is) in
          rw is (ap (λ zs. y ∷ zs) (more rest))
        where
          tail : (z : X) (b : Bool) → level before z x ≡ b → (c : Bool) → level before z y ≡ c → level before z x ≡ level before z y → filter (level before z) xs ≡ filter (level before z) ys
          tail z true e' true f' g = (heads x y (filter (level before z) xs) (filter (level before z) ys) (rw (e', f') at (h z))).1
          tail z false e' false f' g = rw (e', f') at (h z)
          tail z true e' false f' g = absurd (let w : true ≡ false = sym e' ∙ g ∙ f' in cc)
          tail z false e' true f' g = absurd (let w : false ≡ true = sym e' ∙ g ∙ f' in cc)

  -- ---- the sort by placing one by one

  placed_none : (x y : X) (ys : List X) → before y x ≡ false → NoneBefore before x ys → NoneBefore before x (placed_in before y ys)
  placed_none x y [] h a = (h, tt)
  placed_none x y (z ∷ zs) h a = elim (cases_Bool (before z y)) [
    | inl t ↦ rw t (a.0, placed_none x y zs h a.1)
    | inr f ↦ rw f (h, a)
  ]
  -- ---- one way

module _ {X : Type 0} (before : X → X → Bool) (never : (x : X) → before x x ≡ false) (chain : (x y z : X) → before y x ≡ false → before z y ≡ false → before z x ≡ false) (one_way : (x y : X) → before x y ≡ true → before y x ≡ false) where
  placed_stands : (x : X) (ys : List X) → Stands before ys → Stands before (placed_in before x ys)
  placed_stands x [] s = (tt, tt)
  placed_stands x (y ∷ ys) s = elim (cases_Bool (before y x)) [
    | inl t ↦ rw t (placed_none before never chain y x ys (one_way y x t) s.0, placed_stands x ys s.1)
    | inr f ↦ rw f ((f, none_chain before never chain x y ys f s.0), s)
  ]

  pub sort_stands : (xs : List X) → Stands before (sorted_by before xs)
  sort_stands [] = tt
  sort_stands (x ∷ xs) = placed_stands x (sorted_by before xs) (sort_stands xs)

  both_level : (z x y : X) → level before z x ≡ true → level before z y ≡ true → before y x ≡ false
  both_level z x y e f = either (before z x) refl (before y z) refl
    where
      either : (b : Bool) → before z x ≡ b → (c : Bool) → before y z ≡ c → before y x ≡ false
      either false g false h = chain x z y g h
      either true g c h = absurd (let w : false ≡ true = rw g at e in cc)
      either false g true h = absurd (elim (cases_Bool (before z y)) [
        | inl t ↦ let w : false ≡ true = rw t at f in cc
        | inr n ↦ let w : false ≡ true = rw (n, h) at f in cc
      ])

  placed_level : (z x : X) (ys : List X) → filter (level before z) (placed_in before x ys) ≡ filter (level before z) (x ∷ ys)
  placed_level z x [] = refl
  placed_level z x (y ∷ ys) = elim (cases_Bool (before y x)) [
    | inl t ↦ rw t (swap t (level before z x) refl (level before z y) refl (placed_level z x ys))
    | inr f ↦ rw f refl
  ]
    where
      swap : before y x ≡ true → (b : Bool) → level before z x ≡ b → (c : Bool) → level before z y ≡ c → filter (level before z) (placed_in before x ys) ≡ filter (level before z) (x ∷ ys) → filter (level before z) (y ∷ placed_in before x ys) ≡ filter (level before z) (x ∷ y ∷ ys)
      swap t true e true f r = absurd (let w : true ≡ false = sym t ∙ both_level z x y e f in cc)
      swap t true e false f r = rw (f, r, e) refl
      swap t false e true f r = rw (f, r, e) refl
      swap t false e false f r = rw (f, r, e) refl

  pub sort_level : (z : X) (xs : List X) → filter (level before z) (sorted_by before xs) ≡ filter (level before z) xs
  sort_level z [] = refl
  sort_level z (x ∷ xs) = placed_level z x (sorted_by before xs) ∙ more (level before z x) refl (sort_level z xs)
    where
      more : (b : Bool) → level before z x ≡ b → filter (level before z) (sorted_by before xs) ≡ filter (level before z) xs → filter (level before z) (x ∷ sorted_by before xs) ≡ filter (level before z) (x ∷ xs)
      more true e r = rw e (ap (λ ys. x ∷ ys) r)
      more false e r = rw e r

  -- a list in order, the same at each level as another, is that one sorted
  pub is_sorted : (xs ys : List X) → Stands before ys → ((z : X) → filter (level before z) ys ≡ filter (level before z) xs) → ys ≡ sorted_by before xs
  is_sorted xs ys s h = same_list before never chain ys (sorted_by before xs) s (sort_stands xs) (λ z. h z ∙ sym (sort_level z xs))
