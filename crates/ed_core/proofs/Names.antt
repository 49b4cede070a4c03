-- Names that aren't taken.
use Rattle.std.proofs.Common.{◌≡◌, ℕ, ◌+◌, Bool, true, false, List, [], ◌∷◌, ◌++◌, refl, sym, ◌∙◌, ap}
use Rattle.std.specs.Prelude.{is_some, position}
use Rattle.std.specs.List.{list_any, position_from}
use Rattle.std.specs.Str.{bytes_eq}
use Rattle.std.proofs.lemmas.Iterator.Adapters.{position_from-zero}
use Rattle.indexmap.specs.IndexSet.{insert_key}

by_first : {X : Type 0} (p : X → Bool) (i : ℕ) (x : X) (xs : List X) (b : Bool) → p x ≡ b → is_some (position_from p (i + 1) xs) ≡ list_any p xs → is_some (position_from p i (x ∷ xs)) ≡ list_any p (x ∷ xs)
by_first p i x xs true e ih = rw e refl
by_first p i x xs false e ih = rw e ih

some-from : {X : Type 0} (p : X → Bool) (i : ℕ) (xs : List X) → is_some (position_from p i xs) ≡ list_any p xs
some-from p i [] = refl
some-from p i (x ∷ xs) = by_first p i x xs (p x) refl (some-from p (i + 1) xs)

some-position : {X : Type 0} (p : X → Bool) (xs : List X) → is_some (position p xs) ≡ list_any p xs
some-position p xs = ap is_some (position_from-zero p xs) ∙ some-from p 0 xs

pub new-key : (names : List (List ℕ)) (name : List ℕ) → is_some (position (bytes_eq name) names) ≡ false → insert_key bytes_eq names name ≡ names ++ name ∷ []
new-key names name new = rw (sym (some-position (bytes_eq name) names) ∙ new) refl
