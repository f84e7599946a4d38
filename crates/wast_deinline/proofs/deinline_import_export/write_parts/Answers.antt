use Rattle.std.proofs.Common.{◌++◌, map, ap, ◌∙◌}
use Rattle.std.proofs.lemmas.Result.{on_ok_weaker}
use Rattle.wast_parser.specs.Identifiers.{identifier_tree}
use Rattle.wast_module_fields.specs.ModuleFieldViews.{field_tree}
use Rattle.wast_meaning.specs.Written.{has_segment}
use Rattle.wast_deinline.specs.Definitions.{definition_view}
use Rattle.wast_deinline.proofs.Parts.{alone_segment, parts_alike}
use Rattle.wast_deinline.proofs.deinline_import_export.write_parts.Goals as goal

pub returns : goal.returns
returns c =
    let d = definition_view c.args.definition in
    let apart = c.in_ok-split.ensures.alone in
    on_ok_weaker c.push_split.result
    (λ h. h ∙ ap (λ l. map field_tree c.args.out.now.items ++ l)
    (parts_alike (identifier_tree c.args.id.now) d _ _ _ apart c.kind-kind.ensures c.in_ok-split.ensures.segment))
    (c.push_split.ensures (ap has_segment apart ∙ alone_segment d.defined))
