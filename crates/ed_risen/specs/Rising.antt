-- A stock on its way through a group: which buffers are done, and what is so of them.
use Rattle.std.specs.Prelude.{◌≡◌, ℕ, suc, ◌<◌, ◌≤◌, true, false, List, [], length, map, Some, None}
use Rattle.std.specs.List.{AllByRecursion as Each}
use Rattle.ed_base.specs.declared.Member.{Member}
use Rattle.ed_base.specs.Numbers.{is_among, places}
use Rattle.ed_base.specs.Spans.{end_of}
use Rattle.ed_base.specs.Step.{Step}
use Rattle.ed_layers.specs.Order.{mode_fault, overlap_fault}
use Rattle.ed_layers.specs.Records.{Record, base, projection, elision, sources_of, version_in}
use Rattle.ed_layers.specs.SourceStep.{SourceStep}
use Rattle.ed_stock.specs.Stock.{Stock, buffer, now, record_at, record_now, sources_now, text_now, count}
use Rattle.ed_stock.specs.Versions.{Rising, step_in}
use Rattle.ed_risen.specs.Founded.{Founded, Extends}
use Rattle.ed_risen.specs.Growing.{AreFounded}

-- the version is the current one
abbrev pub IsNow : Stock → ℕ × ℕ → Type 0
IsNow s v = v.1 ≡ now s v.0

-- a tracked member's source is named at its current version, and the bounds lie in its text
abbrev pub EndsIn : Stock → List (ℕ × ℕ) → Member → Type 0
EndsIn s sources (Member.Literal units) = Unit {0}
EndsIn s sources (Member.Tracked source bounds mode) = (version_in sources source ≡ Some (now s source)) × (end_of bounds ≤ length (text_now s source))

-- Members that may stand together: each lies inside its source, no two of them conflict, and those that are to cover their source do.
pub record StandInside (s : Stock) (sources : List (ℕ × ℕ)) (members : List Member) : Type 0 where
  pub ends : Each (EndsIn s sources) members
  pub apart : overlap_fault members ≡ None
  pub cover : mode_fault (λ b. length (text_now s b)) members ≡ None

-- The members of a record stand inside their sources. An elision buffer says of each unit of its source's text whether it is hidden.
abbrev pub Inside : Stock → Record → Type 0
Inside s (base text reiterated) = Unit {0}
Inside s (projection members sources) = StandInside s sources members
Inside s (elision flags source version) = (version ≡ now s source) × (length flags ≡ length (text_now s source))

-- A stock between groups.
pub record IsSettled (s : Stock) : Type 0 where
  pub founded : AreFounded s
  pub some : (b : ℕ) → b < count s → 0 < length (buffer s b).records
  pub current : (b : ℕ) → b < count s → Each (IsNow s) (sources_of (record_now s b))
  pub inside : (b : ℕ) → b < count s → Inside s (record_now s b)

-- the sources of a buffer are there, and stand lower
abbrev pub IsLow : Stock → (ℕ → ℕ) → ℕ → Type 0
IsLow s height b = Each (λ v. (v.0 < count s) × (height v.0 < height b)) (sources_of (record_now s b))

-- a step of which no unit has a trail
abbrev pub plain : Step → SourceStep
plain step = record { step = step; trails = map (λ q. []) (places step.new_len) }

-- A buffer that is done: its record names the current versions of buffers that are done, stands on so many levels, and lies inside them.
pub record IsRisen (t : Stock) (height : ℕ → ℕ) (done : List ℕ) (b : ℕ) : Type 0 where
  pub closed : Each (λ v. is_among v.0 done ≡ true) (sources_of (record_now t b))
  pub current : Each (IsNow t) (sources_of (record_now t b))
  pub shallow : Founded (record_at t) (suc (height b)) (b, now t b)
  pub inside : Inside t (record_now t b)

-- A buffer that has stepped: it has one version more, to which the step leads.
pub record HasStepped (s t : Stock) (b : ℕ) (m : SourceStep) : Type 0 where
  pub there : b < count s
  pub longer : length (buffer t b).records ≡ suc (length (buffer s b).records)
  pub from : m.step.old_len ≡ length (text_now s b)
  pub to : m.step.new_len ≡ length (text_now t b)

-- From the stock s on, the buffers listed are done; those of the start may have other sources than before.
pub record Rises (s : Stock) (height : ℕ → ℕ) (start done : List ℕ) (r : Rising) : Type 0 where
  pub same_count : count r.stock ≡ count s
  pub extends : Extends (record_at s) (record_at r.stock)
  pub founded : AreFounded r.stock
  pub names : (b : ℕ) → is_among b start ≡ false → sources_now r.stock b ≡ sources_now s b
  pub started : (b : ℕ) → is_among b done ≡ false → is_among b start ≡ false
  pub unmoved : (b : ℕ) → step_in r.moves b ≡ None → (buffer r.stock b).records ≡ (buffer s b).records
  pub moved : (b : ℕ) (m : SourceStep) → step_in r.moves b ≡ Some m → HasStepped s r.stock b m
  pub known : (b : ℕ) → is_among b done ≡ true → b < count s
  pub later : (b : ℕ) → is_among b done ≡ false → step_in r.moves b ≡ None
  pub risen : (b : ℕ) → is_among b done ≡ true → IsRisen r.stock height done b
