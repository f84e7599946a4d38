use Rattle.std.proofs.Common.{[], ◌∙◌, map}
use Rattle.std.proofs.lemmas.Result.{err_from_is_err_and}
use Rattle.std.proofs.lemmas.List.Elements.{All-head}
use Rattle.wast_core_instr.specs.ExpressionViews.{expression_tree}
use Rattle.wast_module_fields.specs.FuncViews.{local_tree}
use Rattle.wast_custom_sections.specs.Hinted.{HintedFits, with_hints}
use Rattle.wast_custom_sections.proofs.Errors.{same_error}
use Rattle.wast_custom_sections.proofs.Numbered.{adds_one}
use Rattle.wast_custom_sections.proofs.hints.put_hinted.Goals as goal

pub returns-in_err-function : goal.returns-in_err-function
returns-in_err-function c =
    let x = with_hints c.args.number (map local_tree c.args.locals.now) (expression_tree c.args.expression.now) in
    let r = err_from_is_err_and c.from_residual.result c.from_residual.ensures.1 in
    rw (r.1, r.2) (record { added = tt; fit = tt; too_large = λ e f l. c.in_err-function.ensures.too_large (same_error e) (All-head HintedFits x [] f).number })

pub returns-in_err-hints : goal.returns-in_err-hints
returns-in_err-hints c =
    let x = with_hints c.args.number (map local_tree c.args.locals.now) (expression_tree c.args.expression.now) in
    let r = err_from_is_err_and c.from_residual-in_err-hints.result c.from_residual-in_err-hints.ensures.1 in
    rw (r.1, r.2) (record { added = tt; fit = tt; too_large = λ e f l. c.in_err-hints.ensures.too_large (same_error e) (All-head HintedFits x [] f).body })

pub returns : goal.returns
returns c =
    let x = with_hints c.args.number (map local_tree c.args.locals.now) (expression_tree c.args.expression.now) in
    adds_one x c.in_ok-function.function c.deref.result.now c.args.section.now _ c.add_function.result c.in_ok-function.ensures.same (c.deref.ensures.value ∙ c.in_ok-hints.ensures.placed)
    (record { number = c.in_ok-function.ensures.fits; body = c.in_ok-hints.ensures.fits }) c.add_function.ensures
