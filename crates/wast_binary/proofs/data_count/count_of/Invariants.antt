use Rattle.std.proofs.Common.{◌≡◌, ◌≤◌, map, take, length}
use Rattle.std.specs.List.{flat_map}
use Rattle.wast_module_fields.specs.ModuleFieldViews.{field_tree}
use Rattle.wast_meant.specs.FieldsMeant.{datas_of}
use Rattle.wast_binary.proofs.data_count.count_of.Given as goal

abbrev pub invariant-loop-field : goal.invariant-loop-field
invariant-loop-field l = record {
  counted : l.count ≡ length (flat_map datas_of (map field_tree (take l.field-index l.fields)));
  few : l.count ≤ l.field-index;
}
