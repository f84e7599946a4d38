-- What the grammar sees of the code's exports, and of what stands inline.
use Rattle.std.specs.Prelude.{ℕ, List, map}
use Rattle.std.specs.Cow.{cow_str_bytes}
use Rattle.wast_grammar.specs.Tokens.{Name}
use Rattle.wast_parser.specs.Identifiers.{index_tree}
use Rattle.wast_exports.specs.Exports as spec
use Rattle.wast_exports.specs.declared.export.ExportKind.{ExportKind}
use Rattle.wast_exports.specs.declared.export.ExportKind.TheVariants as kinds
use Rattle.wast_exports.specs.declared.export.Export.{Export}
use Rattle.wast_exports.specs.declared.inline.ExportName.{ExportName}
use Rattle.wast_exports.specs.declared.inline.InlineExport.{InlineExport}
use Rattle.wast_exports.specs.declared.inline.InlineImport.{InlineImport}

abbrev pub kind_view : ExportKind → spec.ExportKind
kind_view kinds.Func = spec.Func
kind_view kinds.Table = spec.Table
kind_view kinds.Memory = spec.Memory
kind_view kinds.Global = spec.Global
kind_view kinds.Tag = spec.Tag

abbrev pub export_tree : Export → spec.Export Name ℕ
export_tree e = record { place = e.span; name = cow_str_bytes e.name; kind = kind_view e.kind; item = index_tree e.item }

abbrev pub export_name_tree : ExportName → List ℕ
export_name_tree e = cow_str_bytes e.name

abbrev pub inline_export_tree : InlineExport → List (List ℕ)
inline_export_tree e = map export_name_tree e.names.items

abbrev pub inline_import_tree : InlineImport → List ℕ × List ℕ
inline_import_tree i = (cow_str_bytes i.«module», cow_str_bytes i.field)
