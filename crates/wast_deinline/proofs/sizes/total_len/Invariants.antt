use Rattle.std.proofs.Common.{◌≡◌, map, take}
use Rattle.std.specs.List.{sum_by}
use Rattle.wast_data.specs.DataTree.{byte_count}
use Rattle.wast_data.specs.DataViews.{value_tree}
use Rattle.wast_deinline.proofs.sizes.total_len.Given as goal

abbrev pub invariant-loop-value : goal.invariant-loop-value
invariant-loop-value l = l.total ≡ sum_by byte_count (map value_tree (take l.value-index l.values))
