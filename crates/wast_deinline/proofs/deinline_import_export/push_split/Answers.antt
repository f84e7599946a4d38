use Rattle.std.proofs.Common.{map}
use Rattle.std.proofs.lemmas.Result.{on_ok_weaker}
use Rattle.wast_module_fields.specs.ModuleFieldViews.{field_tree}
use Rattle.wast_deinline.proofs.Parts.{one_then}
use Rattle.wast_deinline.proofs.deinline_import_export.push_split.Goals as goal

pub returns-in-Ok : goal.returns-in-Ok
returns-in-Ok c = λ whole.
    on_ok_weaker c.push_behind.result (λ h. one_then (map field_tree c.args.out.now.items) _ _ _ _ _ c.in-Ok.ensures (c.into_field.ensures whole) h) c.push_behind.ensures
