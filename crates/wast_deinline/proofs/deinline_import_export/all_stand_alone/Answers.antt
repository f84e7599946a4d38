use Rattle.std.proofs.Common.{ap, sym, ◌∙◌}
use Rattle.std.proofs.lemmas.List.Folds.{list_all-map, list_all_at}
use Rattle.wast_module_fields.specs.ModuleFieldViews.{field_tree}
use Rattle.wast_deinline.specs.Definitions.{stands_alone}
use Rattle.wast_deinline.proofs.deinline_import_export.all_stand_alone.Goals as goal

pub returns-then-not-stands_alone : goal.returns-then-not-stands_alone
returns-then-not-stands_alone c =
    let fields = c.args.fields.now in
    let x = c.field-item.result in
    sym (list_all-map stands_alone field_tree fields
    ∙ list_all_at (λ f. stands_alone (field_tree f)) fields c.loop-field.field-index x c.loop-field-test.true (ap (λ f. stands_alone (field_tree f)) (sym c.field-item.is) ∙ sym c.if-not-stands_alone.ensures))
