use Rattle.std.proofs.Common.{arith}
use Rattle.std.proofs.lemmas.Result.{err_from_is_err_and}
use Rattle.wast_conversions.specs.Rows.{bytes_meant}
use Rattle.wast_custom_sections.proofs.Begin.{length_then}
use Rattle.wast_custom_sections.proofs.Counts.{meant_fits}
use Rattle.wast_custom_sections.proofs.Errors.{same_error}
use Rattle.wast_custom_sections.proofs.bodies.put_placed.Goals as goal

pub returns-in_err-push_instruction-clause-too_large : goal.returns-in_err-push_instruction-clause-too_large
returns-in_err-push_instruction-clause-too_large c =
    let r = err_from_is_err_and c.from_residual.result c.from_residual.ensures.1 in
    rw (r.1, r.2) (λ e l. c.in_err-push_instruction.ensures.same.too_large (same_error e) (meant_fits c.args.instr.now (omega arith)))

pub returns-clause-too_large : goal.returns-clause-too_large
returns-clause-too_large c = λ e l.
    let size = length_then c.args.body.now (bytes_meant c.args.instr.now) c.in_ok-push_instruction.ensures.same.spelled in
    c.put_place.ensures.too_large e (omega arith)
