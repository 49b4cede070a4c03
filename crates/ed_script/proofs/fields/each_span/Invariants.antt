use Rattle.std.proofs.Common.{◌≡◌, drop, ◌++◌}
use Rattle.std.specs.Prelude.{option_map}
use Rattle.serde_json.specs.View.{items_view}
use Rattle.ed_script.specs.Fields.{each_item, script_span}
use Rattle.ed_script.proofs.fields.each_span.Given as goal

abbrev pub invariant-loop-item : goal.invariant-loop-item
invariant-loop-item l = option_map (λ rest. l.spans.items ++ rest) (each_item script_span (items_view (drop l.item-index l.items))) ≡ each_item script_span (items_view l.items)
