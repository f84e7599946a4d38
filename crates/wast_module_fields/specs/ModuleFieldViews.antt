-- What the grammar sees of the code's fields as such.
use Rattle.std.specs.Prelude.{ℕ}
use Rattle.wast_grammar.specs.Tokens.{Name}
use Rattle.wast_parser.specs.Identifiers.{index_tree}
use Rattle.wast_core_types.specs.TypeViews.{item_tree, rec_tree}
use Rattle.wast_exports.specs.ExportViews.{export_tree}
use Rattle.wast_customs.specs.CustomViews.{custom_tree}
use Rattle.wast_imports.specs.ImportViews.{imports_tree}
use Rattle.wast_fields.specs.FieldTree as spec
use Rattle.wast_fields.specs.FuncViews.{tag_definition, global_definition, func_definition}
use Rattle.wast_fields.specs.MemoryViews.{memory_definition, data_tree}
use Rattle.wast_fields.specs.ElemViews.{elem_tree, table_definition}
use Rattle.wast_module_fields.specs.declared.start.Start.{Start}
use Rattle.wast_module_fields.specs.declared.field.ModuleField.{ModuleField}
use Rattle.wast_module_fields.specs.declared.field.ModuleField.TheVariants as fields

abbrev pub start_tree : Start → spec.Start Name ℕ
start_tree s = record { place = s.span; func = index_tree s.func }

abbrev pub field_tree : ModuleField → spec.Field Name ℕ
field_tree (fields.TypeItem t) = spec.TypeField (item_tree t)
field_tree (fields.Rec r) = spec.RecField (rec_tree r)
field_tree (fields.Import i) = spec.ImportField (imports_tree i)
field_tree (fields.Func f) = spec.Define (func_definition f)
field_tree (fields.Table t) = spec.Define (table_definition t)
field_tree (fields.Memory m) = spec.Define (memory_definition m)
field_tree (fields.Global g) = spec.Define (global_definition g)
field_tree (fields.Export e) = spec.ExportField (export_tree e)
field_tree (fields.Start s) = spec.StartField (start_tree s)
field_tree (fields.Elem e) = spec.ElemField (elem_tree e)
field_tree (fields.Data d) = spec.DataField (data_tree d)
field_tree (fields.Tag t) = spec.Define (tag_definition t)
field_tree (fields.Custom c) = spec.CustomField (custom_tree c)
