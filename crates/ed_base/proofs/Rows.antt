-- Worked examples of the definitions, by computing.
use Rattle.std.proofs.Common.{◌≡◌, ℕ, List, [], ◌∷◌, refl}
use Rattle.std.specs.Prelude.{codes}
use Rattle.ed_base.specs.declared.edit.Replace.{Replace}
use Rattle.ed_base.specs.Edit.{edited}
use Rattle.ed_base.specs.ChangeList.{ChangeList, normal_form, change, applied, inverse}

-- a replace, written shorter
abbrev r : ℕ → ℕ → List ℕ → Replace
r s l t = record { start = s; len = l; text = t }

-- two replaces that overlap become one change
overlap_text : edited (r 0 5 (codes "a") ∷ r 3 5 (codes "b") ∷ []) (codes "0123456789") ≡ codes "ab89"
overlap_text = refl

overlap_changes : (normal_form (r 0 5 (codes "a") ∷ r 3 5 (codes "b") ∷ []) 10).changes ≡ change 0 8 (codes "ab") ∷ []
overlap_changes = refl

touching : (normal_form (r 2 0 (codes "y") ∷ r 2 0 (codes "xx") ∷ r 2 2 (codes "z") ∷ []) 6).changes ≡ change 2 2 (codes "yxxz") ∷ []
touching = refl

touching_text : edited (r 2 0 (codes "y") ∷ r 2 0 (codes "xx") ∷ r 2 2 (codes "z") ∷ []) (codes "abcdef") ≡ codes "abyxxzef"
touching_text = refl

-- an equal unit put in its place is no kept unit
equal_unit : (normal_form (r 1 1 (codes "b") ∷ []) 3).changes ≡ change 1 1 (codes "b") ∷ []
equal_unit = refl

nothing : (normal_form (r 1 0 [] ∷ []) 3).changes ≡ []
nothing = refl

back : (let c : ChangeList = normal_form (r 0 5 (codes "a") ∷ r 3 5 (codes "b") ∷ []) 10 in applied (inverse c (codes "0123456789")) (applied c (codes "0123456789"))) ≡ codes "0123456789"
back = refl
