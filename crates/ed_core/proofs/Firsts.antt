-- The first of several refusals, and of several numbers one that passes a limit.
use Rattle.std.proofs.Common.{◌≡◌, ◌≢◌, ℕ, ◌<◌, ◌≤◌, true, List, [], ◌∷◌, ◌++◌, map, Option, Some, None, refl, sym, inl, inr, nat_eq, lt-ltb, le-ltb, eqb-true}
use Rattle.std.proofs.lemmas.Bool.{cases_eq}
use Rattle.ed_base.specs.declared.refusal.Refusal.{Refusal}
use Rattle.ed_base.specs.declared.refusal.Which.{Which}
use Rattle.ed_base.specs.Numbers.{first_some, or_else, is_among}
use Rattle.ed_graph.proofs.Lists.{or_cases}
use Rattle.ed_stock.specs.Limits.{some_over}

pub or_else-none : {X : Type 0} (o : Option X) → or_else o None ≡ o
or_else-none None = refl
or_else-none (Some x) = refl

pub first_some-append : {X : Type 0} (xs ys : List (Option X)) → first_some (xs ++ ys) ≡ or_else (first_some xs) (first_some ys)
first_some-append [] ys = refl
first_some-append (None ∷ xs) ys = first_some-append xs ys
first_some-append (Some x ∷ xs) ys = refl

pub some_over-none : (which : Which) (most : ℕ) (f : ℕ → ℕ) → ((b : ℕ) → f b ≤ most) → (bs : List ℕ) → some_over which most (map f bs) ≡ None
some_over-none which most f small [] = refl
some_over-none which most f small (b ∷ bs) = rw (le-ltb most (f b) (small b)) (some_over-none which most f small bs)

-- only one number passes the limit, and it is answered
pub some_over-one : (which : Which) (most : ℕ) (f : ℕ → ℕ) (b : ℕ) → most < f b → ((c : ℕ) → c ≢ b → f c ≤ most) → (bs : List ℕ) → is_among b bs ≡ true → some_over which most (map f bs) ≡ Some (Refusal.Limit which (f b))
some_over-one which most f b large small [] there = absurd (cc)
some_over-one which most f b large small (c ∷ bs) there =
    elim (cases_eq c b) [
      | inl same ↦ rw (same, lt-ltb most (f b) large) refl
      | inr other ↦ elim (or_cases (nat_eq b c) (is_among b bs) there) [
        | inl here ↦ absurd (other (sym (eqb-true b c here)))
        | inr further ↦ rw (le-ltb most (f c) (small c other)) (some_over-one which most f b large small bs further)
      ]
    ]
