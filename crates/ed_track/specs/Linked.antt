-- Steps one after another.
use Rattle.std.specs.Prelude.{◌≡◌, ℕ, List, [], ◌∷◌}
use Rattle.ed_base.specs.ChangeList.{ChangeList, new_len}

-- each begins at the length at which the one before ended, the first at length n
abbrev pub AreLinkedFrom : ℕ → List ChangeList → Type 0
AreLinkedFrom n [] = Unit {0}
AreLinkedFrom n (c ∷ cs) = (c.old_len ≡ n) × AreLinkedFrom (new_len c) cs

-- the same, wherever the first begins
abbrev pub AreLinked : List ChangeList → Type 0
AreLinked [] = Unit {0}
AreLinked (c ∷ cs) = AreLinkedFrom (new_len c) cs

-- the lengths of the text before the first and after the last; n where there is none
abbrev pub len_before : ℕ → List ChangeList → ℕ
len_before n [] = n
len_before n (c ∷ cs) = c.old_len

abbrev pub len_after : ℕ → List ChangeList → ℕ
len_after n [] = n
len_after n (c ∷ cs) = len_after (new_len c) cs
