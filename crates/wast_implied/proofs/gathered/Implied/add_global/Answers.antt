use Rattle.std.proofs.Common.{[], ◌∷◌, ◌++◌, sym, ◌∙◌}
use Rattle.std.specs.List.{flat_map}
use Rattle.wast_value_types.specs.ValueViews.{val_tree}
use Rattle.wast_meaning.specs.Mentions.{val_mentions}
use Rattle.wast_core_instr.specs.ExpressionViews.{expression_tree}
use Rattle.wast_meaning.specs.Mentions.{Constant, says, expr_mentions, part_mentions}
use Rattle.wast_implied.specs.Views.{known}
use Rattle.wast_implied.proofs.Quiet.{used_constant, quiet_before, quiet_said, quiet_val}
use Rattle.wast_implied.proofs.Instructions.{unchanged}
use Rattle.wast_implied.proofs.Retold.{retold}
use Rattle.wast_implied.proofs.gathered.Implied.add_global.Goals as goal

pub returns-in-Inline : goal.returns-in-Inline
returns-in-Inline c =
    let ms = val_mentions (val_tree c.args.global.now.ty.ty) in
    let e = expression_tree c.in-Inline.init in
    rw (c.in-Inline.is) (retold c.add_expression.result c.args.global.now.span (known c.args.self.now) (known c.add_expression.new.self) (expr_mentions e) (flat_map part_mentions (says ms ++ Constant e ∷ []))
    (sym (used_constant e) ∙ sym (quiet_before ms (Constant e ∷ []) (quiet_val (val_tree c.args.global.now.ty.ty)))) c.add_expression.ensures)

pub returns-in-Import : goal.returns-in-Import
returns-in-Import c =
    let ms = val_mentions (val_tree c.args.global.now.ty.ty) in
    rw (c.in-Import.is) (unchanged c.args.global.now.span (known c.args.self.now) (flat_map part_mentions (says ms)) (quiet_said ms (quiet_val (val_tree c.args.global.now.ty.ty))))
