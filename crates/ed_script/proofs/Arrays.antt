-- Arrays that are no pair, and no replace.
use Rattle.std.proofs.Common.{◌≡◌, List, [], ◌∷◌, length, Some, None, refl}
use Rattle.serde_json.specs.Data.{Data}
use Rattle.serde_json.specs.Find.{as_array}
use Rattle.serde_json.specs.View.{items_view}
use Rattle.serde_json.specs.declared.value.Value.{Value}
use Rattle.ed_script.specs.Fields.{pair, replace}

pub pair-none : (d : Data) (vs : List Value) → Some (items_view vs) ≡ as_array d → ¬ (length vs ≡ 2) → None ≡ pair d
unfolding pair
pair-none d [] e other = rw (← e) refl
pair-none d (s ∷ []) e other = rw (← e) refl
pair-none d (s ∷ l ∷ []) e other = absurd (other refl)
pair-none d (s ∷ l ∷ v ∷ vs) e other = rw (← e) refl

pub replace-none : (d : Data) (vs : List Value) → Some (items_view vs) ≡ as_array d → ¬ (length vs ≡ 3) → None ≡ replace d
unfolding replace
replace-none d [] e other = rw (← e) refl
replace-none d (s ∷ []) e other = rw (← e) refl
replace-none d (s ∷ l ∷ []) e other = rw (← e) refl
replace-none d (s ∷ l ∷ t ∷ []) e other = absurd (other refl)
replace-none d (s ∷ l ∷ t ∷ v ∷ vs) e other = rw (← e) refl
