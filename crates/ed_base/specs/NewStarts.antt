-- Where the changes of a list begin in the new text.
use Rattle.std.specs.Prelude.{ℕ, ◌+◌, ◌-◌, List, [], ◌∷◌, length}
use Rattle.ed_base.specs.declared.edit.Change.{Change}
use Rattle.ed_base.specs.ChangeList.{ChangeList}

-- From old place i and new place j on: each stands as far behind the end of the one before it as in the old text.
abbrev pub starts_from : ℕ → ℕ → List Change → List ℕ
starts_from i j [] = []
starts_from i j (c ∷ cs) = (j + (c.start - i)) ∷ starts_from (c.start + c.old_len) (j + (c.start - i) + length c.text) cs

-- the new place at which each change begins
abbrev pub new_starts : ChangeList → List ℕ
new_starts c = starts_from 0 0 c.changes
