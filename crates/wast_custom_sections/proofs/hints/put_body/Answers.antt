use Rattle.std.proofs.Common.{◌≡◌, ◌<◌, false, length, map, sym, subst, arith, Ok, true-eqb, false-eqb}
use Rattle.wasm_layout.specs.Layout.{if_there}
use Rattle.wasm_layout.specs.Present.{has_any}
use Rattle.wast_expressions.specs.Partial.{hint_tree}
use Rattle.wast_core_instr.specs.ExpressionViews.{expression_tree}
use Rattle.wast_module_fields.specs.FuncViews.{local_tree}
use Rattle.wast_custom_sections.specs.Hinted.{AddsHinted, with_hints}
use Rattle.wast_custom_sections.proofs.Numbered.{adds_none, any_none, any_some}
use Rattle.wast_custom_sections.proofs.hints.put_body.Goals as goal

pub returns-then-is_empty : goal.returns-then-is_empty
returns-then-is_empty c =
    let x = with_hints c.args.number (map local_tree c.args.locals.now) (expression_tree c.args.expression.now) in
    let s = c.args.section.now in
    let hints = c.args.expression.now.branch_hints.items in
    let none : has_any (map hint_tree hints) ≡ false = any_none hint_tree hints (omega (arith, true-eqb _ 0 c.if-is_empty.ensures)) in
    subst (λ b. AddsHinted (if_there b x) s s (Ok tt)) (sym none) (adds_none s)

pub returns-else-is_empty : goal.returns-else-is_empty
returns-else-is_empty c =
    let x = with_hints c.args.number (map local_tree c.args.locals.now) (expression_tree c.args.expression.now) in
    let hints = c.args.expression.now.branch_hints.items in
    let some : 0 < length hints = omega (arith, false-eqb _ 0 c.if-is_empty.ensures) in
    subst (λ b. AddsHinted (if_there b x) c.args.section.now c.put_hinted.new.section c.put_hinted.result) (sym (any_some hint_tree hints some)) c.put_hinted.ensures
