use Rattle.std.proofs.Common.{map, sym, ap, ◌∙◌, subst}
use Rattle.std.specs.List.{AllByRecursion}
use Rattle.wasm_encoder_base.specs.Types.{IsValType}
use Rattle.wasm_encoder_base.specs.Views.{val_view}
use Rattle.wast_core_instr.specs.ExpressionViews.{expression_tree}
use Rattle.wast_meant.specs.FieldsMeant.{expr_meant}
use Rattle.wast_section_items.proofs.Bodies.{adds_types_of, no_memory}
use Rattle.wast_section_items.proofs.body.add_inline.Goals as goal

pub add_typed-requires-clause-types : goal.add_typed-requires-clause-types
add_typed-requires-clause-types c =
    let same = ap (map val_view) c.deref.ensures.value ∙ c.in-Ok.ensures.same in
    subst (AllByRecursion IsValType) (sym same) c.in-Ok.ensures.sound

pub returns-in-Ok : goal.returns-in-Ok
returns-in-Ok c =
    let same = ap (map val_view) c.deref.ensures.value ∙ c.in-Ok.ensures.same in
    λ n. adds_types_of n (expr_meant (expression_tree c.args.expression.now)) _ _ _ _ c.add_typed.result same (c.add_typed.ensures n)

pub returns-in-Err : goal.returns-in-Err
returns-in-Err c = λ n. no_memory n (expr_meant (expression_tree c.args.expression.now)) _ _
