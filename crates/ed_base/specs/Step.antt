-- What an edit keeps.
use Rattle.std.specs.Prelude.{ℕ, ◌+◌, List, [], ◌∷◌, length, map, Option, Some, None}
use Rattle.ed_base.specs.declared.edit.Replace.{Replace}
use Rattle.ed_base.specs.Edit.{origins}

-- A step from a text of one length to a text of another: the kept pairs, each the old and the new place of a unit that was kept, rising in both.
pub record Step : Type 0 where
  pub old_len : ℕ
  pub new_len : ℕ
  pub kept : List (ℕ × ℕ)

-- the kept pairs of units that stand from new place q on, by where they come from
abbrev pub pairs_from : ℕ → List (Option ℕ) → List (ℕ × ℕ)
pairs_from q [] = []
pairs_from q (None ∷ units) = pairs_from (q + 1) units
pairs_from q (Some p ∷ units) = (p, q) ∷ pairs_from (q + 1) units

-- the step of an edit of a text of length n
abbrev pub step_of : List Replace → ℕ → Step
step_of replaces n = record { old_len = n; new_len = length (origins replaces n); kept = pairs_from 0 (origins replaces n) }

-- the step back
abbrev pub inverse_step : Step → Step
inverse_step s = record { old_len = s.new_len; new_len = s.old_len; kept = map (λ pair. (pair.1, pair.0)) s.kept }

-- the step that keeps all of a text of length n
abbrev pub same_step : ℕ → Step
same_step n = step_of [] n
