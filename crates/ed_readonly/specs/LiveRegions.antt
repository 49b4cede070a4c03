-- The read-only regions of a base buffer.
use Rattle.std.specs.Prelude.{ℕ, ◌+◌, ◌^◌, ◌<◌, ◌≤◌, Bool, not, List, [], ◌∷◌, ◌++◌, length, filter, map, nat_eq, nat_le, Option, Some, None, Result, Ok, Err, All, if◌then◌else◌}
use Rattle.std.specs.List.{list_any}
use Rattle.ed_base.specs.declared.edit.Span.{Span}
use Rattle.ed_base.specs.declared.mode.SpanMode.{SpanMode}
use Rattle.ed_base.specs.declared.mode.EdgeMode.{EdgeMode}
use Rattle.ed_base.specs.Spans.{end_of}
use Rattle.ed_base.specs.Denial.{Region}
use Rattle.ed_readonly.specs.declared.fault.RegionFault.{RegionFault}

-- the live regions by number, and how many numbers were given
pub record LiveRegions : Type 0 where
  pub regions : List Region
  pub given : ℕ

-- numbers that rise from one on, all below another
abbrev pub AreNumbered : ℕ → ℕ → List Region → Type 0
AreNumbered low high [] = Unit {0}
AreNumbered low high (r ∷ rs) = (low ≤ r.number) × (r.number < high) × AreNumbered (r.number + 1) high rs

-- all end within a text of this length
abbrev pub EndWithin : ℕ → List Region → Type 0
EndWithin len regions = All (λ r. end_of r.span ≤ len) regions

-- what holds of the regions of every buffer
pub record AreKept (t : LiveRegions) : Type 0 where
  pub numbered : AreNumbered 0 t.given t.regions
  pub live : length t.regions ≤ 1024
  pub given : t.given ≤ 2 ^ 20
  pub within : EndWithin (2 ^ 22) t.regions

abbrev pub numbers : List Region → List ℕ
numbers regions = map (λ r. r.number) regions

-- whether a region has this number
abbrev pub is_numbered : ℕ → Region → Bool
is_numbered number r = nat_eq r.number number

abbrev pub is_live : LiveRegions → ℕ → Bool
is_live t number = list_any (is_numbered number) t.regions

-- the limit that one region more would pass, with the count that passes it: of live regions, else of numbers
abbrev pub limit_passed : LiveRegions → Option ℕ
limit_passed t = if nat_le 1024 (length t.regions) then Some 1025 else if nat_le (2 ^ 20) t.given then Some (2 ^ 20 + 1) else None

-- the count that an answer tells as past a limit
abbrev pub limit_told : Result ℕ RegionFault → Option ℕ
limit_told (Ok number) = None
limit_told (Err (RegionFault.Limit count)) = Some count
limit_told (Err RegionFault.OutOfMemory) = None

-- with one region more, under the next number
abbrev pub with_region : LiveRegions → Span → SpanMode → EdgeMode → Option (List ℕ) → LiveRegions
with_region t span mode edge query = record {
  regions = t.regions ++ (record { number = t.given; span = span; mode = mode; edge = edge; query = query }) ∷ [];
  given = t.given + 1;
}

-- without the region of a number
abbrev pub without_region : LiveRegions → ℕ → LiveRegions
without_region t number = record t { regions = filter (λ r. not (is_numbered number r)) t.regions }
