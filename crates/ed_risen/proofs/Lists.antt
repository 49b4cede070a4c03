-- Lists, and what comes first.
use Rattle.std.proofs.Common.{◌≡◌, ℕ, zero, suc, ◌+◌, ◌<◌, ◌≤◌, Bool, true, false, List, [], ◌∷◌, ◌++◌, length, map, Option, Some, None, refl, sym, ap, ◌∙◌, arith, ◌⊎◌, inl, inr}
use Rattle.std.specs.Prelude.{nat_eq, slice_get, slice_index_or, filter, fold, All}
use Rattle.std.specs.List.{AllByRecursion as Each, range_with_len, list_any}
use Rattle.ed_base.specs.declared.Refusal.{Refusal}
use Rattle.ed_base.specs.Numbers.{is_among, or_else, places}
use Rattle.std.proofs.lemmas.Bool.{cases_eq, eqb-true, eq-eqb, ne_eqb}

pub clash : (x : Bool) → x ≡ true → x ≡ false → ⊥
clash x t f = absurd (cc)

-- ---- what is so of all

pub each_both : {X : Type 0} (P Q R : X → Type 0) → ((x : X) → P x → Q x → R x) → (xs : List X) → Each P xs → Each Q xs → Each R xs
each_both P Q R step [] h k = tt
each_both P Q R step (x ∷ xs) h k = (step x h.0 k.0, each_both P Q R step xs h.1 k.1)

pub each_append : {X : Type 0} (P : X → Type 0) (xs ys : List X) → Each P xs → Each P ys → Each P (xs ++ ys)
each_append P [] ys h k = k
each_append P (x ∷ xs) ys h k = (h.0, each_append P xs ys h.1 k)

-- ---- places

pub get_past : {X : Type 0} (xs : List X) (i : ℕ) → length xs ≤ i → slice_get xs i ≡ None
get_past [] i h = refl
get_past (x ∷ xs) zero h = absurd (omega arith)
get_past (x ∷ xs) (suc i) h = get_past xs i (omega arith)

pub index_past : (xs : List (List ℕ)) (b : ℕ) → length xs ≤ b → slice_index_or xs b [] ≡ []
index_past [] b h = refl
index_past (x ∷ xs) zero h = absurd (omega arith)
index_past (x ∷ xs) (suc b) h = index_past xs b (omega arith)

pub index_map : (f : ℕ → List ℕ) (a n b : ℕ) → b < n → slice_index_or (map f (range_with_len a n)) b [] ≡ f (a + b)
index_map f a zero b h = absurd (omega arith)
index_map f a (suc n) zero h = ap f (let e : a ≡ a + 0 = omega arith in e)
index_map f a (suc n) (suc b) h = index_map f (a + 1) n b (omega arith) ∙ ap f (let e : a + 1 + b ≡ a + suc b = omega arith in e)

range_push : (a n : ℕ) → range_with_len a (suc n) ≡ range_with_len a n ++ (a + n) ∷ []
range_push a zero = ap (λ x. x ∷ []) (let e : a ≡ a + 0 = omega arith in e)
range_push a (suc n) = ap (λ xs. a ∷ xs) (range_push (a + 1) n ∙ ap (λ x. range_with_len (a + 1) n ++ x ∷ []) (let e : a + 1 + n ≡ a + suc n = omega arith in e))

pub places_push : (n : ℕ) → places (n + 1) ≡ places n ++ n ∷ []
places_push n = ap (range_with_len 0) (let e : n + 1 ≡ suc n = omega arith in e) ∙ range_push 0 n ∙ ap (λ x. places n ++ x ∷ []) (let e : 0 + n ≡ n = omega arith in e)

-- ---- numbers of a list

pub among_front : (c : ℕ) (xs ys : List ℕ) → is_among c xs ≡ true → is_among c (xs ++ ys) ≡ true
among_front c [] ys h = absurd (cc)
among_front c (x ∷ xs) ys h = by (nat_eq c x) refl h (among_front c xs ys)
  where
    by : (t : Bool) → nat_eq c x ≡ t → is_among c (x ∷ xs) ≡ true → (is_among c xs ≡ true → is_among c (xs ++ ys) ≡ true) → is_among c (x ∷ (xs ++ ys)) ≡ true
    by true t h more = rw t refl
    by false t h more = rw t (more (let e : is_among c (x ∷ xs) ≡ is_among c xs = rw t refl in sym e ∙ h))

-- ---- what comes first

pub or_else_none : (a : Option Refusal) → or_else a None ≡ a
or_else_none None = refl
or_else_none (Some x) = refl

pub or_else_assoc : (a b c : Option Refusal) → or_else (or_else a b) c ≡ or_else a (or_else b c)
or_else_assoc None b c = refl
or_else_assoc (Some x) b c = refl

pub fold_push : {X Y : Type 0} (f : Y → X → Y) (z : Y) (xs : List X) (x : X) → fold f z (xs ++ x ∷ []) ≡ f (fold f z xs) x
fold_push f z [] x = refl
fold_push f z (y ∷ ys) x = fold_push f (f z y) ys x

pub among_push : (xs : List ℕ) (b c : ℕ) → is_among c (xs ++ b ∷ []) ≡ true → (is_among c xs ≡ true) ⊎ (c ≡ b)
among_push [] b c h = by (nat_eq c b) refl h
  where
    by : (t : Bool) → nat_eq c b ≡ t → is_among c (b ∷ []) ≡ true → (is_among c [] ≡ true) ⊎ (c ≡ b)
    by true t h = inr (eqb-true c b t)
    by false t h = absurd (let e : is_among c (b ∷ []) ≡ false = rw t refl in cc)
among_push (x ∷ xs) b c h = by (nat_eq c x) refl h (among_push xs b c)
  where
    by : (t : Bool) → nat_eq c x ≡ t → is_among c (x ∷ (xs ++ b ∷ [])) ≡ true → (is_among c (xs ++ b ∷ []) ≡ true → (is_among c xs ≡ true) ⊎ (c ≡ b)) → (is_among c (x ∷ xs) ≡ true) ⊎ (c ≡ b)
    by true t h more = inl (rw t refl)
    by false t h more = elim (more (let e : is_among c (x ∷ (xs ++ b ∷ [])) ≡ is_among c (xs ++ b ∷ []) = rw t refl in sym e ∙ h)) [ inl i ↦ inl (rw t i) | inr e ↦ inr e ]

pub push_among : (xs : List ℕ) (b c : ℕ) → is_among c xs ≡ true → is_among c (xs ++ b ∷ []) ≡ true
push_among [] b c h = absurd (cc)
push_among (x ∷ xs) b c h = by (nat_eq c x) refl h (push_among xs b c)
  where
    by : (t : Bool) → nat_eq c x ≡ t → is_among c (x ∷ xs) ≡ true → (is_among c xs ≡ true → is_among c (xs ++ b ∷ []) ≡ true) → is_among c (x ∷ (xs ++ b ∷ [])) ≡ true
    by true t h more = rw t refl
    by false t h more = rw t (more (let e : is_among c (x ∷ xs) ≡ is_among c xs = rw t refl in sym e ∙ h))

pub among_last : (xs : List ℕ) (b : ℕ) → is_among b (xs ++ b ∷ []) ≡ true
among_last [] b = rw (eq-eqb b b refl) refl
among_last (x ∷ xs) b = by (nat_eq b x) refl (among_last xs b)
  where
    by : (t : Bool) → nat_eq b x ≡ t → is_among b (xs ++ b ∷ []) ≡ true → is_among b (x ∷ (xs ++ b ∷ [])) ≡ true
    by true t rest = rw t refl
    by false t rest = rw t rest

pub among_itself : (b : ℕ) (xs : List ℕ) → is_among b (b ∷ xs) ≡ true
among_itself b xs = rw (eq-eqb b b refl) refl

pub among_more : (b c : ℕ) (xs : List ℕ) → is_among c xs ≡ true → is_among c (b ∷ xs) ≡ true
among_more b c xs h = by (nat_eq c b) refl
  where
    by : (t : Bool) → nat_eq c b ≡ t → is_among c (b ∷ xs) ≡ true
    by true t = rw t refl
    by false t = rw t h

pub got : {X : Type 0} (xs : List X) (i : ℕ) → i < length xs → (x : X) × (slice_get xs i ≡ Some x)
got [] i h = absurd (omega arith)
got (x ∷ xs) zero h = (x, refl)
got (x ∷ xs) (suc i) h = got xs i (omega arith)

pub each_push : {X : Type 0} (P : X → Type 0) (xs : List X) (x : X) → Each P xs → P x → Each P (xs ++ x ∷ [])
each_push P [] x h k = (k, tt)
each_push P (y ∷ ys) x h k = (h.0, each_push P ys x h.1 k)

pub any_same : (f g : ℕ → Bool) (vs : List (ℕ × ℕ)) → Each (λ v. f v.0 ≡ g v.0) vs → list_any f (map (λ v. v.0) vs) ≡ list_any g (map (λ v. v.0) vs)
any_same f g [] h = refl
any_same f g (v ∷ vs) h = rw (h.0, any_same f g vs h.1) refl

pub each_among : (P : ℕ → Type 0) (xs : List ℕ) → ((c : ℕ) → is_among c xs ≡ true → P c) → Each P xs
each_among P [] h = tt
each_among P (x ∷ xs) h = (h x (among_itself x xs), each_among P xs (λ c i. h c (more c i (nat_eq c x) refl)))
  where
    more : (c : ℕ) → is_among c xs ≡ true → (t : Bool) → nat_eq c x ≡ t → is_among c (x ∷ xs) ≡ true
    more c i true t = rw t refl
    more c i false t = rw t i

pub among_split : (c : ℕ) (xs : List ℕ) → is_among c xs ≡ true → (ys : List ℕ) × (zs : List ℕ) × (xs ≡ ys ++ c ∷ zs)
among_split c [] h = absurd (cc)
among_split c (x ∷ xs) h = by (nat_eq c x) refl h (among_split c xs)
  where
    by : (t : Bool) → nat_eq c x ≡ t → is_among c (x ∷ xs) ≡ true → (is_among c xs ≡ true → (ys : List ℕ) × (zs : List ℕ) × (xs ≡ ys ++ c ∷ zs)) → (ys : List ℕ) × (zs : List ℕ) × (x ∷ xs ≡ ys ++ c ∷ zs)
    by true t h more = ([], xs, ap (λ y. y ∷ xs) (sym (eqb-true c x t)))
    by false t h more = (let r : (ys : List ℕ) × (zs : List ℕ) × (xs ≡ ys ++ c ∷ zs) = more (let e : is_among c (x ∷ xs) ≡ is_among c xs = rw t refl in sym e ∙ h) in (x ∷ r.0, r.1, ap (λ ys. x ∷ ys) r.2))

pub among_behind : (c : ℕ) (xs ys : List ℕ) → is_among c ys ≡ true → is_among c (xs ++ ys) ≡ true
among_behind c [] ys h = h
among_behind c (x ∷ xs) ys h = by (nat_eq c x) refl (among_behind c xs ys h)
  where
    by : (t : Bool) → nat_eq c x ≡ t → is_among c (xs ++ ys) ≡ true → is_among c (x ∷ (xs ++ ys)) ≡ true
    by true t rest = rw t refl
    by false t rest = rw t rest

pub fold_append : {X Y : Type 0} (f : Y → X → Y) (z : Y) (xs ys : List X) → fold f z (xs ++ ys) ≡ fold f (fold f z xs) ys
fold_append f z [] ys = refl
fold_append f z (x ∷ xs) ys = fold_append f (f z x) xs ys

pub each_behind : (P : ℕ → Type 0) (xs ys : List ℕ) → Each P (xs ++ ys) → Each P ys
each_behind P [] ys h = h
each_behind P (x ∷ xs) ys h = each_behind P xs ys h.1

-- those of a range that pass a test
pub passing : (test : ℕ → Bool) (p k c : ℕ) → is_among c (filter test (range_with_len p k)) ≡ true → (p ≤ c) × (c < p + k) × (test c ≡ true)
passing test p zero c h = absurd (cc)
passing test p (suc k) c h = by (test p) refl (passing test (p + 1) k c)
  where
    Found : ℕ → ℕ → Type 0
    Found from len = (from ≤ c) × (c < from + len) × (test c ≡ true)

    later : (p + 1 ≤ c) × (c < p + 1 + k) × (test c ≡ true) → (p ≤ c) × (c < p + suc k) × (test c ≡ true)
    later r = ((let a : p + 1 ≤ c = r.0 in omega arith), (let a : c < p + 1 + k = r.1 in omega arith), r.2)

    by : (t : Bool) → test p ≡ t → (is_among c (filter test (range_with_len (p + 1) k)) ≡ true → (p + 1 ≤ c) × (c < p + 1 + k) × (test c ≡ true)) → (p ≤ c) × (c < p + suc k) × (test c ≡ true)
    by false t more = later (more (let e : is_among c (filter test (range_with_len p (suc k))) ≡ is_among c (filter test (range_with_len (p + 1) k)) = rw t refl in sym e ∙ h))
    by true t more = elim (cases_eq c p) [
      | inl e ↦ (omega arith, omega arith, ap test e ∙ t)
      | inr ne ↦ later (more (let f : is_among c (filter test (range_with_len p (suc k))) ≡ is_among c (filter test (range_with_len (p + 1) k)) = rw (t, ne_eqb c p ne) refl in sym f ∙ h))
    ]

pub passes : (test : ℕ → Bool) (p k c : ℕ) → p ≤ c → c < p + k → test c ≡ true → is_among c (filter test (range_with_len p k)) ≡ true
passes test p zero c from to t = absurd (omega arith)
passes test p (suc k) c from to t = elim (cases_eq c p) [
  | inl e ↦ rw (ap test (sym e) ∙ t, eq-eqb c p e) refl
  | inr ne ↦ by (test p) refl (passes test (p + 1) k c (omega arith) (omega arith) t)
]
  where
    by : (q : Bool) → test p ≡ q → is_among c (filter test (range_with_len (p + 1) k)) ≡ true → is_among c (filter test (range_with_len p (suc k))) ≡ true
    by true q rest = rw q (among_more p c (filter test (range_with_len (p + 1) k)) rest)
    by false q rest = rw q rest

pub each_of : {X : Type 0} (P : X → Type 0) (xs : List X) → All P xs → Each P xs
each_of P [] h = tt
each_of P (x ∷ xs) h = (h 0 x (omega arith), each_of P xs (λ k d below. h (suc k) d (omega arith)))

-- a graph is the list of what it says of each buffer
pub index_list : (xs : List (List ℕ)) (a : ℕ) (f : ℕ → List ℕ) → ((i : ℕ) → f (a + i) ≡ slice_index_or xs i []) → xs ≡ map f (range_with_len a (length xs))
index_list [] a f is = refl
index_list (x ∷ xs) a f is =
    ap (λ y. y ∷ xs) (sym (ap f (let e : a ≡ a + 0 = omega arith in e) ∙ is 0))
    ∙ ap (λ ys. f a ∷ ys) (index_list xs (a + 1) f (λ i. ap f (let e : a + 1 + i ≡ a + suc i = omega arith in e) ∙ is (suc i)))

pub get_map : {X Y : Type 0} (f : X → Y) (xs : List X) (i : ℕ) (x : X) → slice_get xs i ≡ Some x → slice_get (map f xs) i ≡ Some (f x)
get_map f [] i x h = absurd (cc)
get_map f (y ∷ ys) zero x h = let e : y ≡ x = cc in ap (λ z. Some (f z)) e
get_map f (y ∷ ys) (suc i) x h = get_map f ys i x h
