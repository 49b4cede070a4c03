-- Units that stay across a step, as runs and as kept pairs.
use Rattle.std.specs.Prelude.{ℕ, zero, suc, ◌+◌, ◌-◌, ◌≤◌, List, [], ◌∷◌, ◌++◌, length}
use Rattle.ed_base.specs.declared.edit.Change.{Change}
use Rattle.ed_base.specs.ChangeList.{ChangeList}
use Rattle.ed_base.specs.Step.{Step}
use Rattle.ed_kept.specs.declared.kept.KeptRun.{KeptRun}

-- pairs in a row, from these places on
abbrev pub run_pairs : ℕ → ℕ → ℕ → List (ℕ × ℕ)
run_pairs i j zero = []
run_pairs i j (suc k) = (i, j) ∷ run_pairs (i + 1) (j + 1) k

abbrev pub pairs_of : List KeptRun → List (ℕ × ℕ)
pairs_of [] = []
pairs_of (r ∷ rs) = run_pairs r.old r.new r.len ++ pairs_of rs

abbrev pub kept_step : ℕ → ℕ → List KeptRun → Step
kept_step n m runs = record { old_len = n; new_len = m; kept = pairs_of runs }

-- pairs that rise in both texts, from places i and j up to the ends n and m
abbrev pub ArePairsRising : ℕ → ℕ → ℕ → ℕ → List (ℕ × ℕ) → Type 0
ArePairsRising i j n m [] = (i ≤ n) × (j ≤ m)
ArePairsRising i j n m (pair ∷ pairs) = (i ≤ pair.0) × (j ≤ pair.1) × ArePairsRising (pair.0 + 1) (pair.1 + 1) n m pairs

abbrev pub kept_run : ℕ → ℕ → ℕ → KeptRun
kept_run old new len = record { old = old; new = new; len = len }

-- what stays before, between and behind the changes, from old place i and new place j up to the end n of the old text
abbrev pub runs_from : ℕ → ℕ → ℕ → List Change → List KeptRun
runs_from i j n [] = kept_run i j (n - i) ∷ []
runs_from i j n (c ∷ cs) = kept_run i j (c.start - i) ∷ runs_from (c.start + c.old_len) (j + (c.start - i) + length c.text) n cs

abbrev pub runs_of : ChangeList → List KeptRun
runs_of c = runs_from 0 0 c.old_len c.changes

-- runs that rise in both texts, from places i and j up to the ends n and m
abbrev pub AreRunsRising : ℕ → ℕ → ℕ → ℕ → List KeptRun → Type 0
AreRunsRising i j n m [] = (i ≤ n) × (j ≤ m)
AreRunsRising i j n m (r ∷ rs) = (i ≤ r.old) × (j ≤ r.new) × AreRunsRising (r.old + r.len) (r.new + r.len) n m rs
