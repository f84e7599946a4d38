use Rattle.std.proofs.Common.{◌≡◌, subst}
use Rattle.std.specs.Prelude.{OnOk}
use Rattle.wast_module_fields.specs.ModuleFieldViews.{field_tree}
use Rattle.wast_implied.specs.Views.{known}
use Rattle.wast_expanded.proofs.Expands.{as_taken}
use Rattle.wast_expanded.proofs.expanded.TakesTryEachModuleField.try_turn.Goals as goal

pub returns : goal.returns
returns c =
    let takes = as_taken (known c.args.self.now.implied.now) c.span-place.result (field_tree c.args.item.now) c.span-place.ensures in
    subst (λ t. OnOk c.change_field.result (field_tree c.change_field.new.field ≡ t)) takes c.change_field.ensures
