use Rattle.std.proofs.Common.{◌≡◌, List, ◌++◌, map, subst, ◌∙◌, ap, sym}
use Rattle.std.specs.Prelude.{OnOk}
use Rattle.std.specs.List.{flat_map}
use Rattle.wasm_encoder_base.specs.Table.{Functions}
use Rattle.wast_parser.specs.Identifiers.{index_tree}
use Rattle.wast_value_types.specs.ValueViews.{ref_tree}
use Rattle.wast_core_instr.specs.ExpressionViews.{expression_tree}
use Rattle.wast_core_instr.specs.declared.expression.Expression.{Expression}
use Rattle.wast_meaning.specs.Mentions.{Refers, Constant, says, ref_mentions, expr_mentions, part_mentions}
use Rattle.wast_implied.specs.Known.{after_mentions}
use Rattle.wast_implied.specs.Views.{known}
use Rattle.wast_implied.proofs.Quiet.{used, quiet_refers, quiet_heap, quiet_said, quiet_before}
use Rattle.wast_meaning.proofs.SettledFields.{constant_parts}
use Rattle.wast_implied.proofs.Instructions.{unchanged}
use Rattle.wast_implied.proofs.Retold.{retold}
use Rattle.wast_implied.proofs.gathered.Implied.add_elements.Goals as goal

pub returns-in-Indices : goal.returns-in-Indices
returns-in-Indices c =
    let is = map index_tree c.in-Indices.field-0.items in
    rw (c.in-Indices.is) (unchanged c.args.span (known c.args.self.now) (flat_map part_mentions (says (map (Refers Functions) is))) (quiet_said (map (Refers Functions) is) (quiet_refers Functions is)))

pub returns-in-Exprs : goal.returns-in-Exprs
returns-in-Exprs c =
    let k = known c.args.self.now in
    let t = known c.add_expressions.new.self in
    let ms = ref_mentions (ref_tree c.in-Exprs.ty) in
    let es = map expression_tree c.in-Exprs.exprs.items in
    let told = subst (λ (xs : List Expression). OnOk c.add_expressions.result (t ≡ after_mentions c.args.span k (flat_map expr_mentions (map expression_tree xs)))) c.deref.ensures.value c.add_expressions.ensures in
    rw (c.in-Exprs.is) (retold c.add_expressions.result c.args.span k t (flat_map expr_mentions es) (flat_map part_mentions (says ms ++ map Constant es))
    (ap used (sym (constant_parts es)) ∙ sym (quiet_before ms (map Constant es) (quiet_heap (ref_tree c.in-Exprs.ty).heap_type))) told)
