use Rattle.std.proofs.Common.{◌≡◌, ◌<◌, length, slice_index_or, arith}
use Rattle.wast_data.specs.DataViews.{value_tree}
use Rattle.wast_meant.specs.Covered.{data_forms}
use Rattle.wast_conversions.proofs.Each.{none_of_item}
use Rattle.wast_section_items.proofs.Values.{has_bytes}
use Rattle.wast_section_items.proofs.data.bytes_of.Goals as goal

pub push_onto-requires : goal.push_onto-requires
push_onto-requires c =
    let l : c.loop-value.value-index < length c.args.values.now = omega arith in
    let e : c.value-item.result ≡ slice_index_or c.args.values.now c.loop-value.value-index c.value-item.result = cc in
    has_bytes (value_tree c.value-item.result) (none_of_item data_forms value_tree c.args.values.now c.loop-value.value-index c.value-item.result l e c.requires)
