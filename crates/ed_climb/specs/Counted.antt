-- What versions that were planned add to the numbers of the stock.
use Rattle.std.specs.Prelude.{◌≡◌, ℕ, ◌+◌, List, length, fold}
use Rattle.ed_base.specs.ChangeList.{inserted_len}
use Rattle.ed_stock.specs.Limits.{inserted, placements, versions}
use Rattle.ed_stock.specs.Stock.{Stock}
use Rattle.ed_risen.specs.Counting.{tracked_in}
use Rattle.ed_climb.specs.declared.counts.Counts.{Counts}
use Rattle.ed_held.specs.declared.moves.Move.{Move}
use Rattle.ed_held.specs.declared.moves.Planned.{Planned}
use Rattle.ed_held.specs.Moves.{changes_of, record_of, snapshot_of}

abbrev pub counts_with : Counts → Planned → Counts
counts_with c p = record {
  inserted = c.inserted + inserted_len (changes_of p);
  versions = c.versions + 1;
  placements = c.placements + (tracked_in (record_of p) + length (changes_of p).changes);
}

abbrev pub counts_after : Counts → List Move → Counts
counts_after c ms = fold (λ x m. counts_with x m.planned) c ms

-- the numbers are those of the stock
pub record AreCounts (c : Counts) (s : Stock) : Type 0 where
  pub inserted : c.inserted ≡ inserted s
  pub versions : c.versions ≡ versions s
  pub placements : c.placements ≡ placements s

-- a version as it is told
abbrev pub told : Move → ℕ × ℕ
told m = (m.buffer, (snapshot_of m.planned).version)
