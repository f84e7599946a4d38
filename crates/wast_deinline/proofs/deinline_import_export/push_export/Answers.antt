use Rattle.std.proofs.Common.{◌++◌, [], ◌∷◌, map, ap, ◌∙◌}
use Rattle.std.proofs.lemmas.Result.{on_ok_weaker}
use Rattle.wast_parser.specs.Identifiers.{identifier_tree}
use Rattle.wast_exports.specs.ExportViews.{export_name_tree, kind_view}
use Rattle.wast_module_fields.specs.ModuleFieldViews.{field_tree}
use Rattle.wast_meaning.specs.Written.{export_of}
use Rattle.wast_deinline.proofs.deinline_import_export.push_export.Goals as goal

pub returns : goal.returns
returns c =
    on_ok_weaker c.push.result
    (λ h. h
    ∙ ap (λ f. map field_tree c.args.out.now.items ++ f ∷ []) c.export_field.ensures
    ∙ ap (λ own. map field_tree c.args.out.now.items ++ export_of c.args.span (kind_view c.args.kind) (identifier_tree own) (export_name_tree c.args.export) ∷ []) c.in_ok-own.ensures.same)
    c.push.ensures
