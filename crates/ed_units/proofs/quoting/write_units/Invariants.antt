-- What is written and what is still to be written make the whole, whatever follows.
use Rattle.std.proofs.Common.{◌≡◌, ◌-◌, ◌≤◌, ◌++◌, List, [], ℕ, true, drop, length, vec_len}
use Rattle.ed_units.specs.Quoted.{quoted_units}
use Rattle.ed_units.proofs.quoting.write_units.Given as goal

abbrev pub invariant-loop-at : goal.invariant-loop-at
invariant-loop-at l = record {
  whole : (rest : List ℕ) → (l.is_end ≡ true → rest ≡ []) → l.out.items ++ quoted_units (drop l.at l.units ++ rest) ≡ l.fn.out.items ++ quoted_units (l.units ++ rest);
  within : l.at ≤ length l.units;
  grown : vec_len l.fn.out ≤ vec_len l.out;
}

abbrev pub decreases-loop-at : goal.decreases-loop-at
decreases-loop-at l = length l.units - l.at
