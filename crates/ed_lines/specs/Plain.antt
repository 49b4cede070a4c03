-- Units that begin no break, whatever stands beside them.
use Rattle.std.specs.Prelude.{ℕ, Bool, not, ◌||◌, nat_eq}

abbrev pub is_plain : ℕ → Bool
is_plain u = not (nat_eq 13 u || nat_eq 10 u || nat_eq 133 u || nat_eq 8232 u || nat_eq 8233 u)
