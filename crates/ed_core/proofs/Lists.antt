-- Elements of a list in which one was set, or behind which one was put.
use Rattle.std.proofs.Common.{◌≡◌, ℕ, zero, suc, List, [], ◌∷◌, ◌++◌, get_or, set, slice_get, unwrap_or, sym, ◌∙◌, ap, sum_by}
use Rattle.std.proofs.lemmas.List.Sums.{sum-map}
use Rattle.std.proofs.Math.Seq.{map-set_same}
use Rattle.std.proofs.Math.ListN.{get_or-map}
use Rattle.std.proofs.lemmas.Option.{unwrap_or-slice_get}
use Rattle.std.specs.Prelude.{sum}

-- where `f` can't tell the new element from the old one
pub sum_by-set : {X : Type 0} (f : X → ℕ) (xs : List X) (i : ℕ) (x y d : X) → x ≡ unwrap_or (slice_get xs i) d → f y ≡ f x → sum_by f (set xs i y) ≡ sum_by f xs
sum_by-set f xs i x y d is e = sym (sum-map f (set xs i y)) ∙ (ap sum (map-set_same f xs i y d (e ∙ ap f (is ∙ unwrap_or-slice_get xs i d))) ∙ sum-map f xs)

pub looked-up-set : {X Y : Type 0} (f : X → Y) (xs : List X) (i : ℕ) (x y d : X) → x ≡ unwrap_or (slice_get xs i) d → f y ≡ f x → (c : ℕ) → f (unwrap_or (slice_get (set xs i y) c) d) ≡ f (unwrap_or (slice_get xs c) d)
looked-up-set f xs i x y d is e c =
    ap f (unwrap_or-slice_get (set xs i y) c d)
    ∙ (sym (get_or-map f (set xs i y) c d) ∙ (ap (λ l. get_or l c (f d)) (map-set_same f xs i y d (e ∙ ap f (is ∙ unwrap_or-slice_get xs i d))) ∙ (get_or-map f xs c d ∙ ap f (sym (unwrap_or-slice_get xs c d)))))

-- each element is as before, or is the new one
pub at-set : {X : Type 0} (P : ℕ → X → Type 0) (xs : List X) (i : ℕ) (y d : X) → P i y → ((c : ℕ) → P c (unwrap_or (slice_get xs c) d)) → (c : ℕ) → P c (unwrap_or (slice_get (set xs i y) c) d)
at-set P [] i y d new old c = old c
at-set P (x ∷ xs) zero y d new old zero = new
at-set P (x ∷ xs) zero y d new old (suc c) = old (suc c)
at-set P (x ∷ xs) (suc i) y d new old zero = old zero
at-set P (x ∷ xs) (suc i) y d new old (suc c) = at-set (λ k. P (suc k)) xs i y d new (λ k. old (suc k)) c

pub at-append : {X : Type 0} (P : X → Type 0) (xs : List X) (y d : X) → P y → P d → ((c : ℕ) → P (unwrap_or (slice_get xs c) d)) → (c : ℕ) → P (unwrap_or (slice_get (xs ++ y ∷ []) c) d)
at-append P [] y d new none old zero = new
at-append P [] y d new none old (suc c) = none
at-append P (x ∷ xs) y d new none old zero = old zero
at-append P (x ∷ xs) y d new none old (suc c) = at-append P xs y d new none (λ k. old (suc k)) c
