use Rattle.std.proofs.Common.{sym, append-nil, map}
use Rattle.wast_parser.specs.Identifiers.{identifier_tree}
use Rattle.wast_exports.specs.ExportViews.{export_name_tree, kind_view}
use Rattle.wast_module_fields.specs.ModuleFieldViews.{field_tree}
use Rattle.wast_meaning.specs.Written.{export_of}
use Rattle.wast_deinline.proofs.Parts.{more_mapped}
use Rattle.wast_deinline.proofs.deinline_import_export.push_exports.Goals as goal

pub loop-export-init : goal.loop-export-init
loop-export-init c = sym (append-nil (map field_tree c.args.out.now.items))

pub loop-export-preserved : goal.loop-export-preserved
loop-export-preserved c =
    more_mapped export_name_tree (export_of c.args.span (kind_view c.args.kind) (identifier_tree c.args.id.now)) (map field_tree c.args.out.now.items)
    (map field_tree c.loop-export.out.items) _ c.loop-export.yielded c.in-Some.export c.loop-export.invariant c.in-Ok.ensures
