-- The buffers that a stock holds, as the definitions see them.
use Rattle.std.specs.Prelude.{ℕ, ◌-◌, ◌^◌, List, [], length, map, slice_get, unwrap_or, None}
use Rattle.std.specs.Option.{option_map_or}
use Rattle.ed_elide.specs.Records as elisions
use Rattle.ed_project.specs.Records.{record_of}
use Rattle.ed_layers.specs.Records.{Record, base}
use Rattle.ed_stock.specs.Stock.{Stock, Buffer, reiterated_in}
use Rattle.ed_version.specs.declared.Version.{Version}
use Rattle.ed_held.specs.declared.held.Held.{Held}

abbrev pub base_record : Version → Record
base_record v = base v.text v.reiterated

abbrev pub seen : Held → Buffer
seen (Held.Base x) = record { records = map base_record x.chain.versions; changes = x.chain.changes; resolver = None; regions = x.regions.regions; regions_given = x.regions.given; turns = 0 }
seen (Held.Projection p turns) = record { records = map record_of p.versions; changes = p.changes; resolver = p.resolver; regions = []; regions_given = 0; turns = turns }
seen (Held.Elision e turns) = record { records = map (elisions.record_of e.source) e.versions; changes = e.changes; resolver = e.resolver; regions = []; regions_given = 0; turns = turns }

-- What is known of a buffer: its number, the buffer, and the text of each version.
pub record Known : Type 0 where
  pub number : ℕ
  pub buffer : Buffer
  pub texts : List (List ℕ)

abbrev pub known : Held → Known
known (Held.Base x) = record { number = x.chain.buffer; buffer = seen (Held.Base x); texts = map (λ v. v.text) x.chain.versions }
known (Held.Projection p turns) = record { number = p.buffer; buffer = seen (Held.Projection p turns); texts = map (λ v. v.text) p.versions }
known (Held.Elision e turns) = record { number = e.buffer; buffer = seen (Held.Elision e turns); texts = map (λ v. v.text) e.versions }

-- the stock of these buffers
abbrev pub stock_of : List Known → Stock
stock_of ks = record { buffers = map (λ k. k.buffer) ks; most_buffers = 64; most_versions = 2 ^ 18 }

abbrev pub text_of : Known → ℕ → List ℕ
text_of k v = unwrap_or (slice_get k.texts v) []

-- the current record of a buffer, and the number that a version of it repeats
abbrev pub last_of : Buffer → Record
last_of x = unwrap_or (slice_get x.records (length x.records - 1)) (base [] 0)

abbrev pub reiterated_of : Buffer → ℕ → ℕ
reiterated_of x v = option_map_or (λ r. reiterated_in r v) (slice_get x.records v) v

-- the stock of buffers that are held
abbrev pub stock : List Held → Stock
stock hs = stock_of (map known hs)
