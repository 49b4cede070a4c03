use Rattle.std.proofs.Common.{◌≡◌, drop, ◌++◌}
use Rattle.std.specs.Prelude.{option_map}
use Rattle.serde_json.specs.View.{items_view}
use Rattle.ed_script.specs.Fields.{each_item, pair}
use Rattle.ed_script.proofs.fields.each_pair.Given as goal

abbrev pub invariant-loop-item : goal.invariant-loop-item
invariant-loop-item l = option_map (λ rest. l.pairs.items ++ rest) (each_item pair (items_view (drop l.item-index l.items))) ≡ each_item pair (items_view l.items)
