-- The cells of a version: its units, each with the way by which it comes from a base.
use Rattle.std.specs.Prelude.{ℕ, zero, suc, List, [], ◌∷◌, map, flat_map, slice_range, Option}
use Rattle.std.specs.Option.{option_map_or}
use Rattle.std.specs.List.{enumerate_from}
use Rattle.ed_base.specs.declared.piece.Member.{Member}
use Rattle.ed_base.specs.Spans.{end_of}
use Rattle.ed_layers.specs.Records.{Record, base, projection, elision, members_of, sources_of, version_in}

-- A unit; its path, the carriers and members through which it comes, the highest carrier first; and its places, as buffer and place: its own, and those in the sources.
pub record Cell : Type 0 where
  pub unit : ℕ
  pub path : List (ℕ × ℕ)
  pub places : List (ℕ × ℕ)

-- a cell at a place of a buffer
abbrev pub at_place : ℕ → ℕ × Cell → Cell
at_place b indexed = record indexed.1 { places = (b, indexed.0) ∷ indexed.1.places }

-- the cells of a buffer, each at its own place
abbrev pub in_place : ℕ → List Cell → List Cell
in_place b cells = map (at_place b) (enumerate_from 0 cells)

abbrev pub plain_cell : ℕ → Cell
plain_cell u = record { unit = u; path = []; places = [] }

-- a cell of the source, through a member of a carrier
abbrev pub through_member : ℕ → ℕ → Cell → Cell
through_member carrier i cell = record cell { path = (carrier, i) ∷ cell.path }

-- The cells of a member: the units of a literal, or the source's cells between the bounds. `source_cells` has the cells of each source at the version named.
abbrev pub member_cells : (ℕ → List Cell) → ℕ → ℕ × Member → List Cell
member_cells source_cells carrier (i, Member.Literal units) = map plain_cell units
member_cells source_cells carrier (i, Member.Tracked source bounds mode) = map (through_member carrier i) (slice_range (source_cells source) bounds.start (end_of bounds))

abbrev pub record_cells : (ℕ → List Cell) → ℕ → Record → List Cell
record_cells source_cells b (base text reiterated) = in_place b (map plain_cell text)
record_cells source_cells b (projection members sources) = in_place b (flat_map (member_cells source_cells b) (enumerate_from 0 members))
record_cells source_cells b (elision flags source version) = in_place b (flat_map (member_cells source_cells b) (enumerate_from 0 (members_of (elision flags source version))))

-- The records of all buffers by buffer and version. Carriers stand on each other at most so deep as `levels`.
module _ (record_at : ℕ → ℕ → Option Record) where
  unfoldable pub cells_within : ℕ → ℕ → ℕ → List Cell
  cells_within zero b v = []
  cells_within (suc levels) b v = option_map_or (λ r. record_cells (λ source. option_map_or (cells_within levels source) (version_in (sources_of r) source) []) b r) (record_at b v) []

  -- the cells of a version, and its text
  abbrev pub cells : ℕ → ℕ → List Cell
  cells b v = cells_within 9 b v

  abbrev pub text : ℕ → ℕ → List ℕ
  text b v = map (λ c. c.unit) (cells b v)

  -- every version that a version reaches, itself too
  unfoldable pub vector_within : ℕ → ℕ × ℕ → List (ℕ × ℕ)
  vector_within zero v = []
  vector_within (suc levels) v = v ∷ flat_map (vector_within levels) (option_map_or sources_of (record_at v.0 v.1) [])

  abbrev pub vector : ℕ → ℕ → List (ℕ × ℕ)
  vector b v = vector_within 9 (b, v)
