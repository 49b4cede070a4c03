-- What can be asked of a buffer of a stock.
use Rattle.std.specs.Prelude.{◌≡◌, ℕ, ◌+◌, not, List, [], ◌∷◌, ◌++◌, filter, nat_eq, Option}
use Rattle.ed_base.specs.declared.Span.{Span}
use Rattle.ed_base.specs.declared.SpanMode.{SpanMode}
use Rattle.ed_base.specs.declared.EdgeMode.{EdgeMode}
use Rattle.ed_buffer.specs.Planning.{Base}
use Rattle.ed_readonly.specs.LiveRegions.{LiveRegions}
use Rattle.ed_stock.specs.Stock.{Buffer}
use Rattle.ed_held.specs.declared.held.Held.{Held}
use Rattle.ed_held.specs.Seen.{Known}

-- the regions of a buffer
abbrev pub regions_of : Buffer → LiveRegions
regions_of x = record { regions = x.regions; given = x.regions_given }

-- with one more region, which has the next number
abbrev pub with_region : Buffer → Span → SpanMode → EdgeMode → Option (List ℕ) → Buffer
with_region x span mode edge query = record x { regions = x.regions ++ (record { number = x.regions_given; span = span; mode = mode; edge = edge; query = query }) ∷ []; regions_given = x.regions_given + 1 }

abbrev pub without_region : Buffer → ℕ → Buffer
without_region x number = record x { regions = filter (λ r. not (nat_eq r.number number)) x.regions }

-- the same with these regions
abbrev pub zoned_buffer : LiveRegions → Buffer → Buffer
zoned_buffer t x = record x { regions = t.regions; regions_given = t.given }

abbrev pub zoned : LiveRegions → Known → Known
zoned t k = record k { buffer = zoned_buffer t k.buffer }

abbrev pub IsBase : Held → Type 0
IsBase h = (x : Base) × (h ≡ Held.Base x)
