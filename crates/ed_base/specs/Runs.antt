-- Sets of places as spans.
use Rattle.std.specs.Prelude.{ℕ, zero, suc, ◌+◌, Bool, false, not, ◌&&◌, List, map, filter, nat_le, find, Option, option_map, option_and_then, unwrap_or}
use Rattle.ed_base.specs.declared.edit.Span.{Span}
use Rattle.ed_base.specs.Numbers.{places, find_last}
use Rattle.ed_base.specs.Spans.{span_between}

-- whether the test passes at the place before
abbrev pub passes_before : (ℕ → Bool) → ℕ → Bool
passes_before test zero = false
passes_before test (suc p) = test p

-- the first place from p on, below n, at which the test fails, or n
abbrev pub end_of_run : (ℕ → Bool) → ℕ → ℕ → ℕ
end_of_run test n p = unwrap_or (find (λ q. nat_le p q && not (test q)) (places n)) n

-- the maximal runs of places below n that pass the test, by rising place
abbrev pub runs : (ℕ → Bool) → ℕ → List Span
runs test n = map (λ p. span_between p (end_of_run test n p)) (filter (λ p. test p && not (passes_before test p)) (places n))

-- the least span that holds all places below n that pass the test, if there are any
abbrev pub least_range : (ℕ → Bool) → ℕ → Option Span
least_range test n = option_and_then (λ first. option_map (λ last. span_between first (last + 1)) (find_last test (places n))) (find test (places n))
