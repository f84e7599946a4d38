use Rattle.std.proofs.Common.{◌≡◌, true, map, take}
use Rattle.std.specs.List.{list_all}
use Rattle.wast_module_fields.specs.ModuleFieldViews.{field_tree}
use Rattle.wast_deinline.specs.Definitions.{stands_alone}
use Rattle.wast_deinline.proofs.deinline_import_export.all_stand_alone.Given as goal

abbrev pub invariant-loop-field : goal.invariant-loop-field
invariant-loop-field l = list_all stands_alone (map field_tree (take l.field-index l.fields)) ≡ true
