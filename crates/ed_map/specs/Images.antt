-- Where versions show a span of a lower buffer, as far as it is known.
use Rattle.std.specs.Prelude.{◌≡◌, ℕ, ◌-◌, ◌<◌, ◌≤◌, ◌&&◌, All, List, [], ◌∷◌, length, min, nat_lt, insert, slice_get, Option, Some, if◌then◌else◌}
use Rattle.ed_base.specs.declared.edit.Span.{Span}
use Rattle.ed_layers.specs.Records.{Record}
use Rattle.ed_spans.specs.SpanSets.{AreApartFrom, in_spans}
use Rattle.ed_map.specs.declared.images.Known.{Known}
use Rattle.ed_map.specs.Layers.{record_len, AreLayers}
use Rattle.ed_map.specs.Up.{up_within}

module _ (record_at : ℕ → ℕ → Option Record) (rank : ℕ → ℕ → ℕ) (of_ : ℕ) (span : Span) where
  -- these spans lie apart and hold the places at which the version shows the span
  pub record AreImages (b v : ℕ) (spans : List Span) : Type 0 where
    pub layers : AreLayers record_at rank
    pub apart : (r : Record) → record_at b v ≡ Some r → AreApartFrom 0 (record_len r) spans
    pub holds : (r : Record) (k : ℕ) → record_at b v ≡ Some r → k < record_len r → in_spans (up_within record_at 9 of_ span b v) k ≡ in_spans spans k

  abbrev pub AreKnown : List Known → Type 0
  AreKnown known = All (λ k. AreImages k.buffer k.version k.spans.items) known

-- the entry of this version stands there
pub record StandsAt (b v i : ℕ) (known : List Known) : Type 0 where
  pub entry : Known
  pub there : slice_get known i ≡ Some entry
  pub buffer : entry.buffer ≡ b
  pub version : entry.version ≡ v

-- all that is known is so, and the entry of this version stands there
pub record IsFound (record_at : ℕ → ℕ → Option Record) (rank : ℕ → ℕ → ℕ) (of_ : ℕ) (span : Span) (b v i : ℕ) (known : List Known) : Type 0 where
  pub sound : AreKnown record_at rank of_ span known
  pub stands : StandsAt b v i known

-- an entry more, of this version and with these spans
pub record HasPut (b v : ℕ) (images : List Span) (i : ℕ) (before after : List Known) : Type 0 where
  pub entry : Known
  pub buffer : entry.buffer ≡ b
  pub version : entry.version ≡ v
  pub spans : entry.spans.items ≡ images
  pub within : i ≤ length before
  pub put : after ≡ insert before i entry

-- what a text of this length has of a span
abbrev pub clipped : Span → ℕ → List Span
clipped span len = if nat_lt span.start len && nat_lt 0 span.len then record { start = span.start; len = min span.len (len - span.start) } ∷ [] else []
