-- What is so of every stock between groups.
use Rattle.std.specs.Prelude.{◌≡◌, ℕ, ◌<◌, List, length, Contains, Some}
use Rattle.ed_layers.specs.Records.{Record}
use Rattle.ed_layers.specs.Cells.{cells, vector}
use Rattle.ed_stock.specs.Stock.{Stock, buffer, now, record_at, count}

-- each buffer stands at one version
abbrev pub HasOneVersionEach : List (ℕ × ℕ) → Type 0
HasOneVersionEach versions = (b v w : ℕ) → Contains versions (b, v) → Contains versions (b, w) → v ≡ w

-- the versions that a version reaches are of one version of each buffer, by whatever path
abbrev pub OneVector : Stock → Type 0
OneVector s = (b v : ℕ) → v < length (buffer s b).records → HasOneVersionEach (vector (record_at s) b v)

-- those that a current version reaches are current
abbrev pub CurrentVector : Stock → Type 0
CurrentVector s = (b : ℕ) → b < count s → (c v : ℕ) → Contains (vector (record_at s) b (now s b)) (c, v) → v ≡ now s c

-- records that are there stay, and so do their cells
abbrev pub RecordsStay : Stock → Stock → Type 0
RecordsStay old new = (b v : ℕ) (r : Record) → record_at old b v ≡ Some r → (record_at new b v ≡ Some r) × (cells (record_at new) b v ≡ cells (record_at old) b v)
