use Rattle.std.proofs.lemmas.Result.{err_from_is_err_and}
use Rattle.wast_conversions.proofs.Refused.{unpushed}
use Rattle.wast_conversions.proofs.body.push_encoded.Goals as goal

pub returns-in_err-body : goal.returns-in_err-body
returns-in_err-body c =
    let p = err_from_is_err_and c.from_residual.result c.from_residual.ensures.1 in
    rw (p.1, p.2) (unpushed _ _ _ _ c.instruction.result c.in_err-body.field-0.0 c.in_err-body.was c.instruction.follows.holds-at-none c.instruction.ensures.too_large)
