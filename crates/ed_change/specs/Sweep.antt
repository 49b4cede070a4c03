-- One pass over replaces that are sorted by their starts.
use Rattle.std.specs.Prelude.{◌≡◌, ℕ, ◌+◌, ◌-◌, max, nat_eq, nat_le, if◌then◌else◌, List, [], ◌∷◌, ◌++◌}
use Rattle.std.specs.List.Sorted.{IsPermutation, IsNonDecreasingBy}
use Rattle.ed_base.specs.declared.edit.Replace.{Replace}
use Rattle.ed_base.specs.declared.edit.Change.{Change}
use Rattle.ed_base.specs.Edit.{inserted_at}
use Rattle.ed_base.specs.ChangeList.{change}

-- the same replaces by rising start, those at one gap in the order that they had
pub record AreInOrder (given sorted : List Replace) : Type 0 where
  pub same : IsPermutation given sorted
  pub rising : IsNonDecreasingBy (λ r. r.start) sorted
  pub stable : (p : ℕ) → inserted_at sorted p ≡ inserted_at given p

-- the change that deletes the units from i up to e and puts text in, if it does anything
abbrev pub change_if : ℕ → ℕ → List ℕ → List Change
change_if i e [] = if nat_eq i e then [] else change i (e - i) [] ∷ []
change_if i e (u ∷ us) = change i (e - i) (u ∷ us) ∷ []

-- The changes of sorted replaces. The open change begins at i, deletes up to e and puts text in; a replace that begins at e or before belongs to it.
abbrev pub sweep : ℕ → ℕ → List ℕ → List Replace → List Change
sweep i e text [] = change_if i e text
sweep i e text (r ∷ rs) = if nat_le r.start e then sweep i (max e (r.start + r.len)) (text ++ r.text) rs else change_if i e text ++ sweep r.start (r.start + r.len) r.text rs
