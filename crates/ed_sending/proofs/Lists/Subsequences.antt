-- Lists that leave out some elements of another, and lists cut in two by what their elements are.
use Rattle.std.proofs.Common.{◌≡◌, ℕ, zero, suc, ◌<◌, ◌≤◌, Bool, true, false, List, [], ◌∷◌, ◌++◌, map, filter, if◌then◌else◌, Some, None, ◌⊎◌, inl, inr, refl, sym, ap, ◌∙◌, arith, subst}
use Rattle.std.specs.Prelude.{slice_get}
use Rattle.ed_sending.proofs.Lists.SortedParts.{Each}

-- the first is the second with some elements left out
abbrev pub Sub : {X : Type 0} → List X → List X → Type 0
Sub [] ys = Unit {0}
Sub (x ∷ xs) [] = ⊥
Sub (x ∷ xs) (y ∷ ys) = ((x ≡ y) × Sub xs ys) ⊎ Sub (x ∷ xs) ys

pub sub_skip : {X : Type 0} (xs : List X) (y : X) (ys : List X) → Sub xs ys → Sub xs (y ∷ ys)
sub_skip [] y ys s = tt
sub_skip (x ∷ xs) y ys s = inr s

pub sub_keep : {X : Type 0} (x : X) (xs ys : List X) → Sub xs ys → Sub (x ∷ xs) (x ∷ ys)
sub_keep x xs ys s = inl (refl, s)

pub sub_refl : {X : Type 0} (xs : List X) → Sub xs xs
sub_refl [] = tt
sub_refl (x ∷ xs) = inl (refl, sub_refl xs)

pub sub_trans : {X : Type 0} (xs ys zs : List X) → Sub xs ys → Sub ys zs → Sub xs zs
sub_trans [] ys zs a b = tt
sub_trans (x ∷ xs) [] zs a b = absurd a
sub_trans (x ∷ xs) (y ∷ ys) [] a b = absurd b
sub_trans (x ∷ xs) (y ∷ ys) (z ∷ zs) a (inl here) = elim a [
  | inl both ↦ inl (both.0 ∙ here.0, sub_trans xs ys zs both.1 here.1)
  | inr later ↦ inr (sub_trans (x ∷ xs) ys zs later here.1)
]
sub_trans (x ∷ xs) (y ∷ ys) (z ∷ zs) a (inr later) = inr (sub_trans (x ∷ xs) (y ∷ ys) zs a later)

pub sub_same : {X : Type 0} (xs ys : List X) → xs ≡ ys → Sub xs ys
sub_same xs ys e = subst (λ z. Sub xs z) e (sub_refl xs)

pub sub_behind : {X : Type 0} (xs as_ ys : List X) → Sub xs ys → Sub xs (as_ ++ ys)
sub_behind xs [] ys s = s
sub_behind xs (a ∷ as_) ys s = sub_skip xs a (as_ ++ ys) (sub_behind xs as_ ys s)

pub sub_append : {X : Type 0} (as_ bs cs ds : List X) → Sub as_ bs → Sub cs ds → Sub (as_ ++ cs) (bs ++ ds)
sub_append [] bs cs ds s t = sub_behind cs bs ds t
sub_append (a ∷ as_) [] cs ds s t = absurd s
sub_append (a ∷ as_) (b ∷ bs) cs ds (inl here) t = inl (here.0, sub_append as_ bs cs ds here.1 t)
sub_append (a ∷ as_) (b ∷ bs) cs ds (inr later) t = inr (sub_append (a ∷ as_) bs cs ds later t)

pub sub_map : {X Y : Type 0} (f : X → Y) (xs ys : List X) → Sub xs ys → Sub (map f xs) (map f ys)
sub_map f [] ys s = tt
sub_map f (x ∷ xs) [] s = absurd s
sub_map f (x ∷ xs) (y ∷ ys) (inl here) = inl (ap f here.0, sub_map f xs ys here.1)
sub_map f (x ∷ xs) (y ∷ ys) (inr later) = inr (sub_map f (x ∷ xs) ys later)

pub sub_filter : {X : Type 0} (f : X → Bool) (xs ys : List X) → Sub xs ys → Sub (filter f xs) (filter f ys)
sub_filter f [] ys s = tt
sub_filter f (x ∷ xs) [] s = absurd s
sub_filter {X = X} f (x ∷ xs) (y ∷ ys) (inl here) = subst (λ z. Sub (filter f (x ∷ xs)) (filter f (z ∷ ys))) here.0 (either (f x) (sub_filter f xs ys here.1))
  where
    either : (b : Bool) → Sub (filter f xs) (filter f ys) → Sub (if b then x ∷ filter f xs else filter f xs) (if b then x ∷ filter f ys else filter f ys)
    either true rest = inl (refl, rest)
    either false rest = rest
sub_filter f (x ∷ xs) (y ∷ ys) (inr later) = either (f y) (sub_filter f (x ∷ xs) ys later)
  where
    either : (b : Bool) → Sub (filter f (x ∷ xs)) (filter f ys) → Sub (filter f (x ∷ xs)) (if b then y ∷ filter f ys else filter f ys)
    either true rest = sub_skip (filter f (x ∷ xs)) y (filter f ys) rest
    either false rest = rest

pub filter_sub : {X : Type 0} (f : X → Bool) (xs : List X) → Sub (filter f xs) xs
filter_sub f [] = tt
filter_sub f (x ∷ xs) = either (f x) (filter_sub f xs)
  where
    either : (b : Bool) → Sub (filter f xs) xs → Sub (if b then x ∷ filter f xs else filter f xs) (x ∷ xs)
    either true rest = inl (refl, rest)
    either false rest = sub_skip (filter f xs) x xs rest

-- the stronger test passes fewer
pub sub_tests : {X : Type 0} (f g : X → Bool) (xs : List X) → ((x : X) → f x ≡ true → g x ≡ true) → Sub (filter f xs) (filter g xs)
sub_tests f g [] less = tt
sub_tests f g (x ∷ xs) less = either (f x) (g x) refl refl (sub_tests f g xs less)
  where
    either : (a b : Bool) → f x ≡ a → g x ≡ b → Sub (filter f xs) (filter g xs) → Sub (if a then x ∷ filter f xs else filter f xs) (if b then x ∷ filter g xs else filter g xs)
    either true true p q rest = inl (refl, rest)
    either true false p q rest = absurd (let e : true ≡ false = sym (less x p) ∙ q in cc)
    either false true p q rest = sub_skip (filter f xs) x (filter g xs) rest
    either false false p q rest = rest

pub filter_again : {X : Type 0} (f : X → Bool) (xs : List X) → filter f (filter f xs) ≡ filter f xs
filter_again f [] = refl
filter_again f (x ∷ xs) = either (f x) refl (filter_again f xs)
  where
    either : (b : Bool) → f x ≡ b → filter f (filter f xs) ≡ filter f xs → filter f (if b then x ∷ filter f xs else filter f xs) ≡ (if b then x ∷ filter f xs else filter f xs)
    either true p rest = rw p (ap (λ z. x ∷ z) rest)
    either false p rest = rest

pub filter_map_is : {X Y : Type 0} (f : X → Y) (test : Y → Bool) (xs : List X) → filter test (map f xs) ≡ map f (filter (λ x. test (f x)) xs)
filter_map_is f test [] = refl
filter_map_is f test (x ∷ xs) = either (test (f x)) (filter_map_is f test xs)
  where
    either : (b : Bool) → filter test (map f xs) ≡ map f (filter (λ x. test (f x)) xs) → (if b then f x ∷ filter test (map f xs) else filter test (map f xs)) ≡ map f (if b then x ∷ filter (λ x. test (f x)) xs else filter (λ x. test (f x)) xs)
    either true rest = ap (λ z. f x ∷ z) rest
    either false rest = rest

pub sub_each : {X : Type 0} (P : X → Type 0) (xs ys : List X) → Sub xs ys → Each P ys → Each P xs
sub_each P [] ys s a = tt
sub_each P (x ∷ xs) [] s a = absurd s
sub_each P (x ∷ xs) (y ∷ ys) (inl here) a = (subst P (sym here.0) a.0, sub_each P xs ys here.1 a.1)
sub_each P (x ∷ xs) (y ∷ ys) (inr later) a = sub_each P (x ∷ xs) ys later a.1

-- ---- cuts

-- in front each has the one, and behind each has the other
abbrev pub Cut : {X : Type 0} → (X → Type 0) → (X → Type 0) → List X → Type 0
Cut P Q [] = Unit {0}
Cut P Q (x ∷ xs) = (P x × Cut P Q xs) ⊎ Each Q (x ∷ xs)

pub cut_behind : {X : Type 0} (P Q : X → Type 0) (xs : List X) → Each Q xs → Cut P Q xs
cut_behind P Q [] a = tt
cut_behind P Q (x ∷ xs) a = inr a

pub cut_parts : {X : Type 0} (P Q : X → Type 0) (xs ys : List X) → Each P xs → Each Q ys → Cut P Q (xs ++ ys)
cut_parts P Q [] ys a b = cut_behind P Q ys b
cut_parts P Q (x ∷ xs) ys a b = inl (a.0, cut_parts P Q xs ys a.1 b)

pub cut_sub : {X : Type 0} (P Q : X → Type 0) (xs ys : List X) → Sub xs ys → Cut P Q ys → Cut P Q xs
cut_sub P Q [] ys s c = tt
cut_sub P Q (x ∷ xs) [] s c = absurd s
cut_sub P Q (x ∷ xs) (y ∷ ys) s (inr all) = inr (sub_each Q (x ∷ xs) (y ∷ ys) s all)
cut_sub P Q (x ∷ xs) (y ∷ ys) (inl here) (inl c) = inl (subst P (sym here.0) c.0, cut_sub P Q xs ys here.1 c.1)
cut_sub P Q (x ∷ xs) (y ∷ ys) (inr later) (inl c) = cut_sub P Q (x ∷ xs) ys later c.1

pub cut_map : {X Y : Type 0} (f : X → Y) (P Q : Y → Type 0) (xs : List X) → Cut (λ x. P (f x)) (λ x. Q (f x)) xs → Cut P Q (map f xs)
cut_map f P Q [] c = tt
cut_map {X = X} f P Q (x ∷ xs) c = elim c [
  | inl here ↦ inl (here.0, cut_map f P Q xs here.1)
  | inr all ↦ inr (mapped (x ∷ xs) all)
]
  where
    mapped : (zs : List X) → Each (λ x. Q (f x)) zs → Each Q (map f zs)
    mapped [] a = tt
    mapped (z ∷ zs) a = (a.0, mapped zs a.1)

pub each_unfilter : {X : Type 0} (P : X → Type 0) (f : X → Bool) (xs : List X) → Each P (filter f xs) → Each (λ x. f x ≡ true → P x) xs
each_unfilter P f [] a = tt
each_unfilter P f (x ∷ xs) a = either (f x) refl (λ z. each_unfilter P f xs z) a
  where
    either : (b : Bool) → f x ≡ b → (Each P (filter f xs) → Each (λ x. f x ≡ true → P x) xs) → Each P (if b then x ∷ filter f xs else filter f xs) → Each (λ x. f x ≡ true → P x) (x ∷ xs)
    either true p rest a = ((λ e. a.0), rest a.1)
    either false p rest a = ((λ e. absurd (let z : false ≡ true = sym p ∙ e in cc)), rest a)

-- a cut of what passes a test is a cut of all
pub cut_unfilter : {X : Type 0} (P Q : X → Type 0) (f : X → Bool) (xs : List X) → Cut P Q (filter f xs) → Cut (λ x. f x ≡ true → P x) (λ x. f x ≡ true → Q x) xs
cut_unfilter P Q f [] c = tt
cut_unfilter P Q f (x ∷ xs) c = either (f x) refl (λ z. cut_unfilter P Q f xs z) c
  where
    either : (b : Bool) → f x ≡ b → (Cut P Q (filter f xs) → Cut (λ x. f x ≡ true → P x) (λ x. f x ≡ true → Q x) xs) → Cut P Q (if b then x ∷ filter f xs else filter f xs) → Cut (λ x. f x ≡ true → P x) (λ x. f x ≡ true → Q x) (x ∷ xs)
    either true p rest (inl here) = inl ((λ e. here.0), rest here.1)
    either true p rest (inr all) = inr ((λ e. all.0), each_unfilter Q f xs all.1)
    either false p rest c = inl ((λ e. absurd (let z : false ≡ true = sym p ∙ e in cc)), rest c)

pub each_get : {X : Type 0} (P : X → Type 0) (xs : List X) (q : ℕ) (x : X) → Each P xs → slice_get xs q ≡ Some x → P x
each_get P [] q x a is = absurd (let e : None ≡ Some x = is in cc)
each_get P (y ∷ ys) zero x a is = subst P (let e : y ≡ x = cc in e) a.0
each_get P (y ∷ ys) (suc q) x a is = each_get P ys q x a.1 is

-- the place of the cut
pub cut_at : {X : Type 0} (P Q : X → Type 0) (xs : List X) → Cut P Q xs → (n : ℕ) × ((q : ℕ) (x : X) → slice_get xs q ≡ Some x → (q < n → P x) × (n ≤ q → Q x))
cut_at P Q [] c = (0, λ q x is. absurd (let e : None ≡ Some x = is in cc))
cut_at {X = X} P Q (y ∷ ys) (inr all) = (0, λ q x is. ((λ below. absurd (omega arith)), (λ above. each_get Q (y ∷ ys) q x all is)))
cut_at {X = X} P Q (y ∷ ys) (inl here) = by (cut_at P Q ys here.1)
  where
    at : (n : ℕ) → ((q : ℕ) (x : X) → slice_get ys q ≡ Some x → (q < n → P x) × (n ≤ q → Q x)) → (q : ℕ) (x : X) → slice_get (y ∷ ys) q ≡ Some x → (q < suc n → P x) × (suc n ≤ q → Q x)
    at n rest zero x is = ((λ below. subst P (let e : y ≡ x = cc in e) here.0), (λ above. absurd (omega arith)))
    at n rest (suc q) x is = ((λ below. (rest q x is).0 (omega arith)), (λ above. (rest q x is).1 (omega arith)))

    by : (n : ℕ) × ((q : ℕ) (x : X) → slice_get ys q ≡ Some x → (q < n → P x) × (n ≤ q → Q x)) → (n : ℕ) × ((q : ℕ) (x : X) → slice_get (y ∷ ys) q ≡ Some x → (q < n → P x) × (n ≤ q → Q x))
    by r = (suc r.0, at r.0 r.1)
