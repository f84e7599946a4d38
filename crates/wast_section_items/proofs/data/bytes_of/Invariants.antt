use Rattle.std.proofs.Common.{◌≡◌, map, take}
use Rattle.wast_data.specs.DataViews.{value_tree}
use Rattle.wast_meant.specs.FieldsMeant.{values_of}
use Rattle.wast_section_items.proofs.data.bytes_of.Given as goal

abbrev pub invariant-loop-value : goal.invariant-loop-value
invariant-loop-value l = l.bytes.items ≡ values_of (map value_tree (take l.value-index l.values))
