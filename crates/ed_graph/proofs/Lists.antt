-- Lists of numbers: the greatest, tests of some, and how many numbers a list can hold.
use Rattle.std.proofs.Common.{◌≡◌, ◌≢◌, ℕ, zero, suc, ◌+◌, ◌<◌, ◌≤◌, Bool, true, false, ◌||◌, cond, ◌⊎◌, inl, inr, List, [], ◌∷◌, length, map, fold, max, refl, sym, ◌∙◌, ap, arith}
use Rattle.std.proofs.lemmas.Bool.{cases_Bool, cases_lt, cases_eq, eqb-true, eq-eqb}
use Rattle.std.specs.Prelude.{nat_eq}
use Rattle.std.specs.List.{AllByRecursion as Each, list_any, range_with_len}
use Rattle.ed_base.specs.Numbers.{is_among}

-- ---- each

pub each : {X : Type 0} (P : X → Type 0) → ((x : X) → P x) → (xs : List X) → Each P xs
each P all [] = tt
each P all (x ∷ xs) = (all x, each P all xs)

pub each_weaker : {X : Type 0} (P Q : X → Type 0) → ((x : X) → P x → Q x) → (xs : List X) → Each P xs → Each Q xs
each_weaker P Q step [] h = tt
each_weaker P Q step (x ∷ xs) h = (step x h.0, each_weaker P Q step xs h.1)

pub each_both : {X : Type 0} (P Q R : X → Type 0) → ((x : X) → P x → Q x → R x) → (xs : List X) → Each P xs → Each Q xs → Each R xs
each_both P Q R step [] h k = tt
each_both P Q R step (x ∷ xs) h k = (step x h.0 k.0, each_both P Q R step xs h.1 k.1)

pub map_agree : {X Y : Type 0} (f g : X → Y) (xs : List X) → Each (λ x. f x ≡ g x) xs → map f xs ≡ map g xs
map_agree f g [] h = refl
map_agree f g (x ∷ xs) h = ap (λ y. y ∷ map f xs) h.0 ∙ ap (λ ys. g x ∷ ys) (map_agree f g xs h.1)

-- ---- the greatest

pub greatest_rises : (f g : ℕ → ℕ) → ((x : ℕ) → f x ≤ g x) → (xs : List ℕ) (a b : ℕ) → a ≤ b → fold max a (map f xs) ≤ fold max b (map g xs)
greatest_rises f g le [] a b h = h
greatest_rises f g le (x ∷ xs) a b h =
    let here : f x ≤ g x = le x in
    greatest_rises f g le xs (max a (f x)) (max b (g x)) (omega arith)

pub greatest_within : (f : ℕ → ℕ) (m : ℕ) (xs : List ℕ) → Each (λ x. f x ≤ m) xs → (a : ℕ) → a ≤ m → fold max a (map f xs) ≤ m
greatest_within f m [] e a h = h
greatest_within f m (x ∷ xs) e a h =
    let here : f x ≤ m = e.0 in
    greatest_within f m xs e.1 (max a (f x)) (omega arith)

pub greatest_above : (f : ℕ → ℕ) (xs : List ℕ) (a : ℕ) → a ≤ fold max a (map f xs)
greatest_above f [] a = omega arith
greatest_above f (x ∷ xs) a =
    let further : max a (f x) ≤ fold max (max a (f x)) (map f xs) = greatest_above f xs (max a (f x)) in
    omega arith

pub each_below : (f : ℕ → ℕ) (xs : List ℕ) (a : ℕ) → Each (λ x. f x ≤ fold max a (map f xs)) xs
each_below f [] a = tt
each_below f (x ∷ xs) a =
    let further : max a (f x) ≤ fold max (max a (f x)) (map f xs) = greatest_above f xs (max a (f x)) in
    (omega arith, each_below f xs (max a (f x)))

-- a greatest number above the start is reached
pub greatest_reached : (f : ℕ → ℕ) (P : ℕ → Type 0) (m : ℕ) (xs : List ℕ) → Each P xs → (a : ℕ) → a < m → fold max a (map f xs) ≡ m → (x : ℕ) × P x × (f x ≡ m)
greatest_reached f P m [] e a h is = absurd (omega arith)
greatest_reached f P m (x ∷ xs) e a h is =
    elim (cases_lt (f x) m) [
      | inl k ↦ greatest_reached f P m xs e.1 (max a (f x)) (omega arith) is
      | inr k ↦ (x, e.0, (let le : max a (f x) ≤ fold max (max a (f x)) (map f xs) = greatest_above f xs (max a (f x)) in omega arith))
    ]

-- ---- some

pub or_left : (a b : Bool) → a ≡ true → (a || b) ≡ true
or_left true b h = refl
or_left false b h = absurd (cc)

pub or_right : (a b : Bool) → b ≡ true → (a || b) ≡ true
or_right true b h = refl
or_right false b h = h

pub or_cases : (a b : Bool) → (a || b) ≡ true → (a ≡ true) ⊎ (b ≡ true)
or_cases true b h = inl refl
or_cases false b h = inr h

pub same_bools : (a b : Bool) → (a ≡ true → b ≡ true) → (b ≡ true → a ≡ true) → a ≡ b
same_bools true b there back = sym (there refl)
same_bools false true there back = back refl
same_bools false false there back = refl

pub each_gives_some : (p : ℕ → Bool) (xs : List ℕ) → Each (λ x. p x ≡ true → list_any p xs ≡ true) xs
each_gives_some p [] = tt
each_gives_some p (x ∷ xs) =
    (λ h. or_left (p x) (list_any p xs) h, each_weaker _ _ (λ y further h. or_right (p x) (list_any p xs) (further h)) xs (each_gives_some p xs))

pub from_some : (p : ℕ → Bool) (Q : Type 0) (xs : List ℕ) → Each (λ x. p x ≡ true → Q) xs → list_any p xs ≡ true → Q
from_some p Q [] e h = absurd (cc)
from_some p Q (x ∷ xs) e h = elim (or_cases (p x) (list_any p xs) h) [ inl k ↦ e.0 k | inr k ↦ from_some p Q xs e.1 k ]

pub some_agree : (p q : ℕ → Bool) (xs : List ℕ) → Each (λ x. p x ≡ q x) xs → list_any p xs ≡ list_any q xs
some_agree p q [] e = refl
some_agree p q (x ∷ xs) e = ap (λ b. b || list_any p xs) e.0 ∙ ap (λ b. q x || b) (some_agree p q xs e.1)

-- ---- numbers in a list

without : ℕ → List ℕ → List ℕ
without n [] = []
without n (x ∷ xs) = cond (nat_eq n x) xs (x ∷ without n xs)

length-without : (n : ℕ) (xs : List ℕ) → is_among n xs ≡ true → suc (length (without n xs)) ≡ length xs
unfolding without
length-without n [] h = absurd (cc)
length-without n (x ∷ xs) h =
    elim (cases_Bool (nat_eq n x)) [
      | inl t ↦ ap (λ b. suc (length (cond b xs (x ∷ without n xs)))) t
      | inr f ↦ ap (λ b. suc (length (cond b xs (x ∷ without n xs)))) f ∙ ap suc (length-without n xs (ap (λ b. b || is_among n xs) (sym f) ∙ h))
    ]

among_without : (n m : ℕ) (xs : List ℕ) → m ≢ n → is_among m xs ≡ true → is_among m (without n xs) ≡ true
unfolding without
among_without n m [] ne h = h
among_without n m (x ∷ xs) ne h =
    elim (cases_Bool (nat_eq n x)) [
      | inl t ↦ ap (λ b. is_among m (cond b xs (x ∷ without n xs))) t
          ∙ elim (or_cases (nat_eq m x) (is_among m xs) h) [ inl same ↦ absurd (ne (eqb-true m x same ∙ sym (eqb-true n x t))) | inr further ↦ further ]
      | inr f ↦ ap (λ b. is_among m (cond b xs (x ∷ without n xs))) f
          ∙ elim (or_cases (nat_eq m x) (is_among m xs) h) [
            | inl same ↦ or_left (nat_eq m x) (is_among m (without n xs)) same
            | inr further ↦ or_right (nat_eq m x) (is_among m (without n xs)) (among_without n m xs ne further)
          ]
    ]

-- a list that holds all numbers below k holds at least k
pub holds_many : (k : ℕ) (xs : List ℕ) → ((m : ℕ) → m < k → is_among m xs ≡ true) → k ≤ length xs
holds_many zero xs all = omega arith
holds_many (suc k) xs all =
    let here : is_among k xs ≡ true = all k (omega arith) in
    let shorter : suc (length (without k xs)) ≡ length xs = length-without k xs here in
    let fewer : k ≤ length (without k xs) = holds_many k (without k xs) (λ m h. among_without k m xs (omega arith) (all m (omega arith))) in
    omega arith

pub among_values : (f : ℕ → ℕ) (n a c : ℕ) → a ≤ c → c < a + n → is_among (f c) (map f (range_with_len a n)) ≡ true
among_values f zero a c low high = absurd (omega arith)
among_values f (suc n) a c low high =
    elim (cases_eq c a) [
      | inl e ↦ or_left (nat_eq (f c) (f a)) _ (eq-eqb (f c) (f a) (ap f e))
      | inr ne ↦ or_right (nat_eq (f c) (f a)) _ (among_values f n (a + 1) c (omega arith) (omega arith))
    ]
