use Rattle.std.proofs.Common.{◌∙◌}
use Rattle.wasm_encoder_base.proofs.ReadSteps.{none_map}
use Rattle.wasm_encoder_code.proofs.Front.{front_behind}
use Rattle.wasm_encoder_code.proofs.const_expr.ConstExpr.get_ref_func.Goals as goal

pub returns-in-210-clause-none : goal.returns-in-210-clause-none
returns-in-210-clause-none c =
    none_map c.index_at.result
    (λ absent n small front. absent n small (front_behind 210 _ c.as_slice.result.now c.args.self.now (c.as_slice.ensures.value ∙ c.self.view_is) front))
    c.index_at.ensures.none
