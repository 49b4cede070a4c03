-- The text of a record, read off the texts of its sources.
use Rattle.std.proofs.Common.{◌≡◌, ℕ, true, false, List, [], map, Option, Some, None, ap, ◌∙◌}
use Rattle.std.specs.Prelude.{unwrap_or}
use Rattle.std.specs.Option.{option_map_or}
use Rattle.ed_layers.specs.Cells.{Cell, cells_within, record_cells}
use Rattle.ed_layers.specs.Records.{Record, base, is_carrier, members_of, sources_of, version_in}
use Rattle.ed_layers.specs.Texts.{text_over}
use Rattle.ed_risen.proofs.Texts.{units_base, units_carrier}
use Rattle.ed_stock.specs.Stock.{Stock, now, record_at, record_now, text_now}

abbrev pub unit_in : Cell → ℕ
unit_in c = c.unit

-- the cells of each source at the version named, in fewer rounds
abbrev cells_named : Stock → List (ℕ × ℕ) → ℕ → List Cell
cells_named s sources source = option_map_or (cells_within (record_at s) 8 source) (version_in sources source) []

-- the text of the current version of a base
pub base_text : (s : Stock) (b : ℕ) (text : List ℕ) (n : ℕ) → record_now s b ≡ base text n → text_now s b ≡ text
unfolding cells_within
base_text s b text n is = by (record_at s b (now s b)) is
  where
    by : (o : Option Record) → unwrap_or o (base [] 0) ≡ base text n → map unit_in (option_map_or (λ r. record_cells (cells_named s (sources_of r)) b r) o []) ≡ text
    by None e = let f : [] ≡ text = cc in f
    by (Some r) e = ap (λ z. map unit_in (record_cells (cells_named s (sources_of z)) b z)) e ∙ units_base (cells_named s []) b text n

abbrev pub texts_within : Stock → List (ℕ × ℕ) → ℕ → List ℕ
texts_within s sources source = map unit_in (cells_named s sources source)

-- and that of a carrier
pub carrier_now : (s : Stock) (b : ℕ) (r : Record) → record_now s b ≡ r → is_carrier r ≡ true → text_now s b ≡ text_over (texts_within s (sources_of r)) (members_of r)
unfolding cells_within
carrier_now s b r is carries = by (record_at s b (now s b)) is
  where
    by : (o : Option Record) → unwrap_or o (base [] 0) ≡ r → map unit_in (option_map_or (λ r. record_cells (cells_named s (sources_of r)) b r) o []) ≡ text_over (texts_within s (sources_of r)) (members_of r)
    by None e = absurd (let f : false ≡ true = ap is_carrier e ∙ carries in cc)
    by (Some q) e = ap (λ z. map unit_in (record_cells (cells_named s (sources_of z)) b z)) e ∙ units_carrier (cells_named s (sources_of r)) b r carries
