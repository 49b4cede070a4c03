-- A stock in which one buffer has one version more.
use Rattle.std.specs.Prelude.{◌≡◌, ◌≢◌, ℕ, ◌<◌, [], ◌∷◌, ◌++◌, length}
use Rattle.ed_layers.specs.Records.{Record}
use Rattle.ed_stock.specs.Stock.{Stock, buffer, record_at}
use Rattle.ed_risen.specs.Founded.{Founded}

-- the buffer has this record more, and no record of another changes; a buffer without records wasn't there
pub record Grows (old new : Stock) (b : ℕ) (r : Record) : Type 0 where
  pub here : (buffer new b).records ≡ (buffer old b).records ++ r ∷ []
  pub others : (a : ℕ) → a ≢ b → (buffer new a).records ≡ (buffer old a).records

-- each version that is there stands on versions that are there
abbrev pub AreFounded : Stock → Type 0
AreFounded s = (b v : ℕ) → v < length (buffer s b).records → Founded (record_at s) 9 (b, v)
