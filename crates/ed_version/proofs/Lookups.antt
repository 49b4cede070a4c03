-- Elements of a list that grew at its end, and texts of versions.
use Rattle.std.proofs.Common.{◌≡◌, ℕ, zero, suc, ◌<◌, List, [], ◌∷◌, ◌++◌, length, refl, arith}
use Rattle.std.specs.Prelude.{slice_get, unwrap_or, Some}
use Rattle.std.proofs.lemmas.Option.{slice_get-map}
use Rattle.ed_version.specs.declared.chain.Version.{Version}
use Rattle.ed_version.specs.Chain.{texts, text_at}

-- the text at a place of the list
abbrev pub nth : List (List ℕ) → ℕ → List ℕ
nth ts i = unwrap_or (slice_get ts i) []

pub text-nth : (versions : List Version) (v : ℕ) → text_at versions v ≡ nth (texts versions) v
text-nth versions v = rw (slice_get-map (λ (x : Version). x.text) versions v) refl

pub get_kept : {X : Type 0} (xs ys : List X) (i : ℕ) → i < length xs → slice_get (xs ++ ys) i ≡ slice_get xs i
get_kept [] ys i within = absurd (omega arith)
get_kept (x ∷ xs) ys zero within = refl
get_kept (x ∷ xs) ys (suc i) within = get_kept xs ys i (omega arith)

pub get_added : {X : Type 0} (xs : List X) (x : X) → slice_get (xs ++ x ∷ []) (length xs) ≡ Some x
get_added [] x = refl
get_added (y ∷ xs) x = get_added xs x
