-- What a layer tells of a version.
use Rattle.std.specs.Prelude.{◌≡◌, true, false}
use Rattle.ed_layers.specs.Records.{Record, is_carrier, members_of, sources_of}
use Rattle.ed_map.specs.declared.layers.Placed.{Placed}
use Rattle.ed_map.specs.Layers.{record_len}

-- a base's length, or a carrier's members with the versions that it names
abbrev pub IsPlaced : Record → Placed → Type 0
IsPlaced r (Placed.Base len) = (is_carrier r ≡ false) × (record_len r ≡ len)
IsPlaced r (Placed.Carrier members sources) = (is_carrier r ≡ true) × (members.now ≡ members_of r) × (sources.now ≡ sources_of r)
