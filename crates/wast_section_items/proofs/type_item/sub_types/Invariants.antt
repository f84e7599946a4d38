use Rattle.std.proofs.Common.{◌≡◌, map, take, All}
use Rattle.wasm_encoder_base.specs.Types.{IsSubType}
use Rattle.wasm_encoder_base.specs.Views.{sub_view}
use Rattle.wast_core_types.specs.TypeViews.{item_tree}
use Rattle.wast_conversions.specs.Types.{sub_meant}
use Rattle.wast_section_items.proofs.type_item.sub_types.Given as goal

abbrev pub invariant-loop-item : goal.invariant-loop-item
invariant-loop-item l = record {
  same : map sub_view l.definitions.items ≡ map (λ t. sub_meant t.definition) (map item_tree (take l.item-index l.types));
  sound : All (λ t. IsSubType (sub_meant (item_tree t).definition)) (take l.item-index l.types);
}
