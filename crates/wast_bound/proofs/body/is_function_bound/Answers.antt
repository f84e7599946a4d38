use Rattle.std.proofs.Common.{sym, ◌∙◌}
use Rattle.wast_fields.specs.FuncViews.{function_tree}
use Rattle.wast_bound.proofs.Function.{func_then}
use Rattle.wast_bound.proofs.body.is_function_bound.Goals as goal

pub returns-then-is_head_bound : goal.returns-then-is_head_bound
returns-then-is_head_bound g c =
    c.is_expression_bound.ensures ∙ func_then (g.K.Known.scope c.args.known) (function_tree c.args.ty.now c.args.locals.now c.args.body.now) (sym c.if-is_head_bound.true ∙ c.is_head_bound.ensures)
