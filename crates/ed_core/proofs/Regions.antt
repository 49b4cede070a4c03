-- Regions of a buffer are no matter of the stock's limits.
use Rattle.std.proofs.Common.{◌≡◌, ℕ, ◌-◌, ◌^◌, List, [], ◌∷◌, length, map, slice_get, unwrap_or, refl, length-set}
use Rattle.ed_base.specs.declared.refusal.Which.{Which}
use Rattle.ed_base.specs.Denial.{Region}
use Rattle.ed_layers.specs.Records.{base, sources_of, members_of}
use Rattle.ed_layers.specs.Cells as cell
use Rattle.ed_layers.specs.Graph as graph
use Rattle.ed_stock.specs.Stock.{Stock, Buffer, buffer, with_buffer, record_at, record_now, text_now, count, graph_order}
use Rattle.ed_stock.specs.Limits.{over, some_over, stock_limits, inserted, versions, placements}
use Rattle.ed_core.proofs.Lists.{sum_by-set, looked-up-set}

module _ (s : Stock) (b : ℕ) (rs : List Region) (n : ℕ) where
  -- the buffer has these regions, and has given so many numbers
  abbrev pub changed : Buffer
  changed = record (buffer s b) { regions = rs; regions_given = n }

  abbrev pub after : Stock
  after = with_buffer s b changed

  same-records : (c : ℕ) → (buffer after c).records ≡ (buffer s c).records
  same-records c = looked-up-set (λ x. x.records) s.buffers b (buffer s b) changed _ refl refl c

  same-record_at : record_at after ≡ record_at s
  same-record_at = λ i c v. slice_get (same-records c i) v

  same-record_now : (c : ℕ) → record_now after c ≡ record_now s c
  same-record_now c = λ i. unwrap_or (slice_get (same-records c i) (length (same-records c i) - 1)) (base [] 0)

  same-text_now : (c : ℕ) → text_now after c ≡ text_now s c
  same-text_now c = λ i. cell.text (same-record_at i) c (length (same-records c i) - 1)

  same-count : count after ≡ count s
  same-count = length-set s.buffers b changed

  same-order : graph_order after ≡ graph_order s
  same-order = λ i. graph.graph_order (λ c. map (λ v. v.0) (sources_of (same-record_now c i))) (same-count i)

  same-inserted : inserted after ≡ inserted s
  same-inserted = sum_by-set _ s.buffers b (buffer s b) changed _ refl refl

  same-versions : versions after ≡ versions s
  same-versions = sum_by-set _ s.buffers b (buffer s b) changed _ refl refl

  same-placements : placements after ≡ placements s
  same-placements = sum_by-set _ s.buffers b (buffer s b) changed _ refl refl

  pub same-limits : stock_limits after ≡ stock_limits s
  same-limits = λ i.
      over Which.Buffers s.most_buffers (same-count i)
      ∷ some_over Which.Units (2 ^ 22) (map (λ c. length (same-text_now c i)) (same-order i))
      ∷ over Which.Inserted (2 ^ 27) (same-inserted i)
      ∷ over Which.Versions s.most_versions (same-versions i)
      ∷ some_over Which.Members 1024 (map (λ c. length (members_of (same-record_now c i))) (same-order i))
      ∷ over Which.Placements (2 ^ 26) (same-placements i)
      ∷ []
