-- Placements rise with the index.
use Rattle.std.proofs.Common.{ℕ, zero, suc, ◌+◌, ◌-◌, ◌/◌, ◌<◌, ◌≤◌, List, [], ◌∷◌, length, take, arith}
use Rattle.std.specs.Prelude.{sum_by, slice_get}
use Rattle.std.specs.Option.{option_map_or}
use Rattle.std.proofs.lemmas.List.Sums.{sum_by-cons}
use Rattle.ed_base.specs.declared.piece.Member.{Member}
use Rattle.ed_base.specs.Spans.{end_of}
use Rattle.ed_layers.specs.Records.{member_len, placement}

pub ends_rise : (members : List Member) (i j : ℕ) → i ≤ j → j < length members → end_of (placement members i) ≤ end_of (placement members j)
ends_rise [] i j l m = absurd (omega arith)
ends_rise (x ∷ xs) zero zero l m = omega arith
ends_rise (x ∷ xs) zero (suc j) l m = omega (arith, sum_by-cons member_len x (take j xs))
ends_rise (x ∷ xs) (suc i) zero l m = absurd (omega arith)
ends_rise (x ∷ xs) (suc i) (suc j) l m =
    let r : sum_by member_len (take i xs) + option_map_or member_len (slice_get xs i) 0 ≤ sum_by member_len (take j xs) + option_map_or member_len (slice_get xs j) 0 = ends_rise xs i j (omega arith) (omega arith) in
    omega (arith, r, sum_by-cons member_len x (take i xs), sum_by-cons member_len x (take j xs))

pub below_middle : (low high : ℕ) → low < high → low + (high - low) / 2 < high
below_middle low high l = omega arith

pub starts_rise : (members : List Member) (i j : ℕ) → i ≤ j → (placement members i).start ≤ (placement members j).start
starts_rise members zero j below = omega arith
starts_rise [] (suc i) j below = omega arith
starts_rise (m ∷ ms) (suc i) zero below = absurd (omega arith)
starts_rise (m ∷ ms) (suc i) (suc j) below = let r : sum_by member_len (take i ms) ≤ sum_by member_len (take j ms) = starts_rise ms i j (omega arith) in omega (arith, r, sum_by-cons member_len m (take i ms), sum_by-cons member_len m (take j ms))
