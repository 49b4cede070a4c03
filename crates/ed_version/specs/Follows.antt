-- How the texts of a buffer follow each other.
use Rattle.std.specs.Prelude.{◌≡◌, ℕ, List, [], ◌∷◌}
use Rattle.ed_base.specs.ChangeList.{ChangeList, applied}

-- each change list leads from one text to the next
abbrev pub Follows : List (List ℕ) → List ChangeList → Type 0
Follows [] changes = ⊥
Follows (t ∷ []) [] = Unit {0}
Follows (t ∷ []) (c ∷ cs) = ⊥
Follows (t ∷ u ∷ ts) [] = ⊥
Follows (t ∷ u ∷ ts) (c ∷ cs) = (u ≡ applied c t) × Follows (u ∷ ts) cs
