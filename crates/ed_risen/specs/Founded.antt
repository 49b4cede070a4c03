-- Versions that stand on versions which are there.
use Rattle.std.specs.Prelude.{◌≡◌, ℕ, zero, suc, Option, Some, MatchOption}
use Rattle.std.specs.List.{AllByRecursion as Each}
use Rattle.ed_layers.specs.Records.{Record, sources_of}

-- The version is there, and so is each that it names, and so on down, in fewer steps than so many.
unfoldable pub Founded : (ℕ → ℕ → Option Record) → ℕ → ℕ × ℕ → Type 0
Founded at zero v = ⊥
Founded at (suc levels) v = MatchOption (at v.0 v.1) ⊥ (λ r. Each (Founded at levels) (sources_of r))

-- what is there in the one is there in the other
abbrev pub Extends : (ℕ → ℕ → Option Record) → (ℕ → ℕ → Option Record) → Type 0
Extends old new = (b v : ℕ) (r : Record) → old b v ≡ Some r → new b v ≡ Some r
