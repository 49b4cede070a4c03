-- Texts as runs of one trail each.
use Rattle.std.specs.Prelude.{◌≡◌, ℕ, ◌-◌, ◌<◌, false, List, [], ◌∷◌, ◌++◌, length, map, flat_map, min, nat_lt, slice_range, if◌then◌else◌}
use Rattle.ed_layers.specs.Sending.{Run, is_same_way}

-- the units of a run, each with its trail
abbrev pub run_units : Run → List (ℕ × List (ℕ × ℕ))
run_units r = map (λ u. (u, r.trail)) r.units

abbrev pub text_of : List Run → List (ℕ × List (ℕ × ℕ))
text_of rs = flat_map run_units rs

-- the first of these runs, if there is one, came another way
abbrev pub BeginsOtherwise : List (ℕ × ℕ) → List Run → Type 0
BeginsOtherwise trail [] = Unit {0}
BeginsOtherwise trail (r ∷ rs) = is_same_way trail r.trail ≡ false

-- each has a unit, and the next one came another way
abbrev pub AreRuns : List Run → Type 0
AreRuns [] = Unit {0}
AreRuns (r ∷ rs) = (0 < length r.units) × BeginsOtherwise r.trail rs × AreRuns rs

abbrev pub run : List (ℕ × ℕ) → List ℕ → Run
run trail units = record { trail = trail; units = units }

abbrev pub joined_run : Run → List ℕ → Run
joined_run r units = run r.trail (r.units ++ units)

-- units that came this way, put behind the runs
abbrev pub put_run : List Run → List (ℕ × ℕ) → List ℕ → List Run
put_run rs trail [] = rs
put_run [] trail (u ∷ us) = run trail (u ∷ us) ∷ []
put_run (r ∷ []) trail (u ∷ us) = if is_same_way r.trail trail then joined_run r (u ∷ us) ∷ [] else r ∷ run trail (u ∷ us) ∷ []
put_run (r ∷ s ∷ rs) trail (u ∷ us) = r ∷ put_run (s ∷ rs) trail (u ∷ us)

-- a run from one place to another, if there is a unit between them
abbrev pub run_part : Run → ℕ → ℕ → List Run
run_part r from to = if nat_lt from to then run r.trail (slice_range r.units from to) ∷ [] else []

-- the runs from one place to another
abbrev pub runs_cut : ℕ → ℕ → List Run → List Run
runs_cut from to [] = []
runs_cut from to (r ∷ rs) = run_part r from (min to (length r.units)) ++ runs_cut (from - length r.units) (to - length r.units) rs
