-- The keys of an object, as its map lists them.
use Rattle.std.proofs.Common.{◌≡◌, ℕ, List, [], ◌∷◌, map, refl, ap}
use Rattle.std.specs.Prelude.{◌||◌, string_bytes, String}
use Rattle.std.specs.List.{list_any, list_all}
use Rattle.std.specs.declared.alloc.Global.{Global}
use Rattle.std.specs.Str.{bytes_eq}
use Rattle.serde_json.specs.View.{members_view}
use Rattle.serde_json.specs.declared.value.Value.{Value}
use Rattle.ed_script.specs.Fields.{have_only}

any-map : {A : Type 0} (f : A → List ℕ) (key : List ℕ) (keys : List A) → list_any (λ k. bytes_eq key (f k)) keys ≡ list_any (bytes_eq key) (map f keys)
any-map f key [] = refl
any-map f key (k ∷ keys) = ap (λ b. bytes_eq key (f k) || b) (any-map f key keys)

pub have_only-keys : {A : Type 0} (f : A → List ℕ) (keys : List A) (members : List (String Global × Value)) → list_all (λ k. list_any (λ other. bytes_eq (string_bytes k) (f other)) keys) (map (λ m. m.0) members) ≡ have_only (map f keys) (members_view members)
have_only-keys f keys [] = refl
have_only-keys f keys (m ∷ members) = rw (any-map f (string_bytes m.0) keys, have_only-keys f keys members) refl
