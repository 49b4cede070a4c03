-- The cells of a version by its members.
use Rattle.std.proofs.Common.{◌≡◌, ℕ, zero, suc, ◌+◌, ◌-◌, ◌<◌, ◌≤◌, Bool, true, false, List, [], ◌∷◌, length, map, Some, Option, refl, ap, ◌∙◌, arith, length-append}
use Rattle.std.specs.Prelude.{slice_range, nat_eq, flat_map}
use Rattle.std.specs.Option.{option_map_or}
use Rattle.std.specs.List.{enumerate_from, range_with_len}
use Rattle.std.proofs.lemmas.List.{length-map}
use Rattle.std.proofs.lemmas.List.Sums.{sum_by-cons}
use Rattle.ed_base.specs.declared.edit.Span.{Span}
use Rattle.ed_base.specs.declared.piece.Member.{Member}
use Rattle.ed_base.specs.Spans.{end_of}
use Rattle.ed_layers.specs.Records.{Record, base, projection, elision, members_of, sources_of, version_in, member_len, members_len}
use Rattle.ed_layers.specs.Cells.{Cell, at_place, in_place, plain_cell, through_member, member_cells, record_cells, cells_within}
use Rattle.ed_layers.specs.Mapping.{has_place}
use Rattle.ed_map.specs.Layers.{record_len, EachTracked, AreLayers}
use Rattle.ed_spans.proofs.SliceLemmas.{length_range}

-- the cells before they get their own places
abbrev pub raw_cells : (ℕ → List Cell) → ℕ → Record → List Cell
raw_cells src b (base text reiterated) = map plain_cell text
raw_cells src b (projection members sources) = flat_map (member_cells src b) (enumerate_from 0 members)
raw_cells src b (elision flags source version) = flat_map (member_cells src b) (enumerate_from 0 (members_of (elision flags source version)))

pub cells_raw : (src : ℕ → List Cell) (b : ℕ) (r : Record) → record_cells src b r ≡ in_place b (raw_cells src b r)
cells_raw src b (base text reiterated) = refl
cells_raw src b (projection members sources) = refl
cells_raw src b (elision flags source version) = refl

-- the sources of a record, at the versions that it names
abbrev pub served : {X : Type 0} → X → (ℕ → ℕ → X) → Record → ℕ → X
served none at r source = option_map_or (at source) (version_in (sources_of r) source) none

module _ (record_at : ℕ → ℕ → Option Record) where
  pub cells_step : (levels b v : ℕ) (r : Record) → record_at b v ≡ Some r → cells_within record_at (suc levels) b v ≡ in_place b (raw_cells (served [] (cells_within record_at levels) r) b r)
  unfolding cells_within
  cells_step levels b v r is = rw is (cells_raw (served [] (cells_within record_at levels) r) b r)

pub length_in_place : (b n : ℕ) (cs : List Cell) → length (map (at_place b) (enumerate_from n cs)) ≡ length cs
length_in_place b n [] = refl
length_in_place b n (c ∷ cs) = ap suc (length_in_place b (n + 1) cs)

-- every cell of the buffer has its own place there
pub has_own : (q b n : ℕ) (cs : List Cell) → nat_eq b b ≡ true → map (has_place b (nat_eq q)) (map (at_place b) (enumerate_from n cs)) ≡ map (nat_eq q) (range_with_len n (length cs))
has_own q b n [] same = refl
has_own q b n (c ∷ cs) same = rw (same, has_own q b (n + 1) cs same) refl

-- its own place is none of another buffer
pub has_other : (to b n : ℕ) (test : ℕ → Bool) (cs : List Cell) → nat_eq b to ≡ false → map (has_place to test) (map (at_place b) (enumerate_from n cs)) ≡ map (has_place to test) cs
has_other to b n test [] other = refl
has_other to b n test (c ∷ cs) other = rw (other, has_other to b (n + 1) test cs other) refl

-- each member has as many cells as it has units
pub member_cells_len : (src : ℕ → List Cell) (b i : ℕ) (ms : List Member) → EachTracked (λ source bounds. end_of bounds ≤ length (src source)) ms → length (flat_map (member_cells src b) (enumerate_from i ms)) ≡ members_len ms
member_cells_len src b i [] within = refl
member_cells_len src b i (Member.Literal units ∷ ms) within =
    length-append (map plain_cell units) (flat_map (member_cells src b) (enumerate_from (i + 1) ms))
    ∙ omega (arith, length-map units plain_cell, member_cells_len src b (i + 1) ms within, sum_by-cons member_len (Member.Literal units) ms)
member_cells_len src b i (Member.Tracked source bounds mode ∷ ms) within =
    let here : length (map (through_member b i) (slice_range (src source) bounds.start (end_of bounds))) ≡ end_of bounds - bounds.start = length-map (slice_range (src source) bounds.start (end_of bounds)) (through_member b i) ∙ length_range (src source) bounds.start (end_of bounds) within.0 in
    length-append (map (through_member b i) (slice_range (src source) bounds.start (end_of bounds))) (flat_map (member_cells src b) (enumerate_from (i + 1) ms))
    ∙ omega (arith, here, member_cells_len src b (i + 1) ms within.1, sum_by-cons member_len (Member.Tracked source bounds mode) ms)

pub each_tracked : {P Q : ℕ → Span → Type 0} (ms : List Member) → ((source : ℕ) (bounds : Span) → P source bounds → Q source bounds) → EachTracked P ms → EachTracked Q ms
each_tracked [] f each = tt
each_tracked (Member.Literal units ∷ ms) f each = each_tracked ms f each
each_tracked (Member.Tracked source bounds mode ∷ ms) f each = (f source bounds each.0, each_tracked ms f each.1)

-- of a record whose members fit
pub raw_len : (src : ℕ → List Cell) (b : ℕ) (r : Record) → EachTracked (λ source bounds. end_of bounds ≤ length (src source)) (members_of r) → length (raw_cells src b r) ≡ record_len r
raw_len src b (base text reiterated) within = length-map text plain_cell
raw_len src b (projection members sources) within = member_cells_len src b 0 members within
raw_len src b (elision flags source version) within = member_cells_len src b 0 (members_of (elision flags source version)) within

module _ (record_at : ℕ → ℕ → Option Record) (rank : ℕ → ℕ → ℕ) where
  -- a version that is there has as many cells as its text is long
  pub cells_len : AreLayers record_at rank → (levels b v : ℕ) (r : Record) → record_at b v ≡ Some r → rank b v < levels → length (cells_within record_at levels b v) ≡ record_len r
  cells_len layers zero b v r is low = absurd (omega arith)
  cells_len layers (suc levels) b v r is low =
      ap (λ (cs : List Cell). length cs) (cells_step record_at levels b v r is) ∙ length_in_place b 0 (raw_cells (served [] (cells_within record_at levels) r) b r)
      ∙ raw_len (served [] (cells_within record_at levels) r) b r (each_tracked (members_of r) (λ source bounds s.
      let ih : length (cells_within record_at levels source s.version) ≡ record_len s.inner = cells_len layers levels source s.version s.inner s.there (omega (arith, s.lower)) in
      rw (s.named, ih) s.inside) (layers.fit b v r is))
