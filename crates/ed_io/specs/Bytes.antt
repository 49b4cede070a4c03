-- What a call took from a source and put into a sink, where these tell their bytes. What is told before a call is told after it.
use Rattle.std.specs.Prelude.{ℕ, List, Option}
use Rattle.std.specs.Io.KnownBytes.{Consumes, Appends, IsAtEnd}
use mathlib.Core.List.{IsPrefix}

-- the bytes were taken off the front
abbrev pub Took : Option (List ℕ) → List ℕ → Option (List ℕ) → Type 0
Took before bytes now = Consumes before now bytes

-- some bytes were taken off the front
abbrev pub TookSome : Option (List ℕ) → Option (List ℕ) → Type 0
TookSome before now = (bytes : List ℕ) × Took before bytes now

-- the bytes were added at the end
abbrev pub Added : Option (List ℕ) → List ℕ → Option (List ℕ) → Type 0
Added before bytes now = Appends before now bytes

-- a beginning of the bytes was added at the end
abbrev pub AddedFront : Option (List ℕ) → List ℕ → Option (List ℕ) → Type 0
AddedFront before whole now = (part : List ℕ) × IsPrefix part whole × Added before part now

-- where the bytes are told, none is left
abbrev pub NoneLeft : Option (List ℕ) → Type 0
NoneLeft left = IsAtEnd left
