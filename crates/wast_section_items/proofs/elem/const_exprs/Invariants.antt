use Rattle.std.proofs.Common.{◌≡◌, map, take, All}
use Rattle.std.specs.List.{flat_map}
use Rattle.wasm_encoder_base.specs.Instr.{instr_bytes}
use Rattle.wasm_encoder_code.specs.Laws.{IsExpression}
use Rattle.wast_core_instr.specs.ExpressionViews.{expression_tree}
use Rattle.wast_meant.specs.FieldsMeant.{expr_meant}
use Rattle.wast_section_items.specs.Fits.{ExprFits}
use Rattle.wast_section_items.proofs.elem.const_exprs.Given as goal

abbrev pub invariant-loop-expr : goal.invariant-loop-expr
invariant-loop-expr l = record {
  made : l.values.items ≡ map (λ is. flat_map instr_bytes is) (map expr_meant (map expression_tree (take l.expr-index l.exprs)));
  fits : All (λ e. ExprFits (expr_meant (expression_tree e))) (take l.expr-index l.exprs);
  sound : All (λ e. IsExpression (expr_meant (expression_tree e))) (take l.expr-index l.exprs);
}
