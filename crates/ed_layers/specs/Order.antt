-- The order of members on one source.
use Rattle.std.specs.Prelude.{ℕ, Bool, true, false, not, ◌&&◌, ◌||◌, List, [], ◌∷◌, nat_eq, nat_lt, nat_le, find, Option, None, option_map}
use Rattle.std.specs.List.{enumerate_from}
use Rattle.ed_base.specs.declared.edit.Span.{Span}
use Rattle.ed_base.specs.declared.mode.SpanMode.{SpanMode}
use Rattle.ed_base.specs.declared.piece.Member.{Member}
use Rattle.ed_base.specs.declared.refusal.Refusal.{Refusal}
use Rattle.ed_base.specs.Numbers.{or_else}
use Rattle.ed_base.specs.Spans.{end_of, is_before}

abbrev pub is_inclusive : SpanMode → Bool
is_inclusive SpanMode.EdgeInclusive = true
is_inclusive _ = false

-- by start, then by end, then by index
abbrev pub stands_before : ℕ × Span → ℕ × Span → Bool
stands_before a b = is_before a.1 b.1 || (nat_eq a.1.start b.1.start && nat_eq a.1.len b.1.len && nat_lt a.0 b.0)

-- of two spans with their indices, whether the first in that order ends no later than the other starts
abbrev pub in_order : ℕ × Span → ℕ × Span → Bool
in_order a b = stands_before a b && nat_le (end_of a.1) b.1.start || stands_before b a && nat_le (end_of b.1) a.1.start

-- Two members conflict where they are on one source, and one of them is to cover it or they are not in order.
abbrev pub conflict : ℕ × Member → ℕ × Member → Bool
conflict (i, Member.Tracked source bounds mode) (j, Member.Tracked source' bounds' mode') = nat_eq source source' && (is_inclusive mode || is_inclusive mode' || not (in_order (i, bounds) (j, bounds')))
conflict _ _ = false

-- the first member that is to cover its source and doesn't; source_len has the length of each source
abbrev pub fails_to_cover : (ℕ → ℕ) → Member → Bool
fails_to_cover source_len (Member.Literal units) = false
fails_to_cover source_len (Member.Tracked source bounds mode) = is_inclusive mode && not (nat_eq bounds.start 0 && nat_eq bounds.len (source_len source))

abbrev pub mode_fault : (ℕ → ℕ) → List Member → Option Refusal
mode_fault source_len members = option_map (λ im. Refusal.Mode im.0) (find (λ im. fails_to_cover source_len im.1) (enumerate_from 0 members))

-- the least index with a conflict, and the least index above it that it conflicts with
abbrev pub first_conflict : List (ℕ × Member) → Option (ℕ × ℕ)
first_conflict [] = None
first_conflict (m ∷ ms) = or_else (option_map (λ other. (m.0, other.0)) (find (conflict m) ms)) (first_conflict ms)

abbrev pub overlap_fault : List Member → Option Refusal
overlap_fault members = option_map (λ pair. Refusal.Overlap pair.0 pair.1) (first_conflict (enumerate_from 0 members))
