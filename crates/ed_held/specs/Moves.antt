-- Versions that were planned and not yet made.
use Rattle.std.specs.Prelude.{◌≢◌, ℕ, ◌-◌, List, [], ◌∷◌, length, map, fold, find, nat_eq, slice_get, Option, MatchOption}
use Rattle.std.specs.Option.{option_map_or}
use Rattle.std.specs.List.{AllByRecursion as Each}
use Rattle.ed_base.specs.ChangeList.{ChangeList, new_len, step}
use Rattle.ed_layers.specs.Records.{Record, base, projection}
use Rattle.ed_layers.specs.SourceStep.{SourceStep}
use Rattle.ed_stock.specs.Stock.{Stock}
use Rattle.ed_stock.specs.Versions.{Rising, with_version}
use Rattle.ed_version.specs.declared.Snapshot.{Snapshot}
use Rattle.ed_buffer.specs.Planning as buffers
use Rattle.ed_elide.specs.Records as elisions
use Rattle.ed_pieces.specs.Trails.{trails_in}
use Rattle.ed_project.specs.Planning as projections
use Rattle.ed_held.specs.declared.held.Held.{Held}
use Rattle.ed_held.specs.declared.moves.Planned.{Planned}
use Rattle.ed_held.specs.declared.moves.Move.{Move}
use Rattle.ed_held.specs.Seen.{Known, known, text_of}

-- what leads to the version, its record and its snapshot
abbrev pub changes_of : Planned → ChangeList
changes_of (Planned.Base s) = s.changes
changes_of (Planned.Projection n) = n.changes
changes_of (Planned.Elision n) = n.changes

abbrev pub record_of : Planned → Record
record_of (Planned.Base s) = base s.snapshot.text s.reiterated
record_of (Planned.Projection n) = projection n.members n.sources
record_of (Planned.Elision n) = elisions.record_next n

abbrev pub snapshot_of : Planned → Snapshot
snapshot_of (Planned.Base s) = s.snapshot
snapshot_of (Planned.Projection n) = n.snapshot
snapshot_of (Planned.Elision n) = n.snapshot

-- the moves as the definitions see them, and the stock in which they are made
abbrev pub step_of : Move → SourceStep
step_of m = record { step = step (changes_of m.planned); trails = trails_in m.trails (new_len (changes_of m.planned)) }

abbrev pub move_seen : Move → ℕ × SourceStep
move_seen m = (m.buffer, step_of m)

abbrev pub with_move : Stock → Move → Stock
with_move s m = with_version s m.buffer (record_of m.planned) (changes_of m.planned)

abbrev pub rising_of : Stock → List Move → Rising
rising_of s ms = record { stock = fold with_move s ms; moves = map move_seen ms }

-- the move of a buffer
abbrev pub move_of : List Move → ℕ → Option Move
move_of ms b = find (λ m. nat_eq m.buffer b) ms

-- the snapshot of a buffer at its current version
abbrev pub newest_of : Known → Snapshot
newest_of k = record { buffer = k.number; version = length k.buffer.records - 1; text = text_of k (length k.buffer.records - 1) }

abbrev pub snapshot_now : List Held → ℕ → Snapshot
snapshot_now hs b = option_map_or (λ h. newest_of (known h)) (slice_get hs b) (record { buffer = b; version = 0; text = [] })

-- the same once the moves are made
abbrev pub snapshot_after : List Held → List Move → ℕ → Snapshot
snapshot_after hs ms b = option_map_or (λ m. snapshot_of m.planned) (move_of ms b) (snapshot_now hs b)

-- the version was planned of this buffer as it is
abbrev pub CanMake : Held → Planned → Type 0
CanMake (Held.Base x) (Planned.Base s) = buffers.IsPlanned x s
CanMake (Held.Projection p turns) (Planned.Projection n) = projections.IsPlanned p n
CanMake (Held.Elision e turns) (Planned.Elision n) = elisions.IsPlanned e n
CanMake _ _ = ⊥

abbrev pub IsPlannedAt : List Held → Move → Type 0
IsPlannedAt hs m = MatchOption (slice_get hs m.buffer) ⊥ (λ h. CanMake h m.planned)

-- no buffer has two moves
abbrev pub AreApart : List Move → Type 0
AreApart [] = Unit {0}
AreApart (m ∷ ms) = Each (λ n. n.buffer ≢ m.buffer) ms × AreApart ms
