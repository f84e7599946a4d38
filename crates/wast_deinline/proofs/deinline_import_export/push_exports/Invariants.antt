use Rattle.std.proofs.Common.{◌≡◌, ◌++◌, map}
use Rattle.wast_parser.specs.Identifiers.{identifier_tree}
use Rattle.wast_exports.specs.ExportViews.{export_name_tree, kind_view}
use Rattle.wast_module_fields.specs.ModuleFieldViews.{field_tree}
use Rattle.wast_meaning.specs.Written.{export_of}
use Rattle.wast_deinline.proofs.deinline_import_export.push_exports.Given as goal

abbrev pub invariant-loop-export : goal.invariant-loop-export
invariant-loop-export l =
    map field_tree l.out.items ≡ map field_tree l.initial.out.items ++ map (export_of l.span (kind_view l.kind) (identifier_tree l.id)) (map export_name_tree l.yielded)
