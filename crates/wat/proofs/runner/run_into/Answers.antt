use Rattle.std.proofs.Common.{subst}
use Rattle.std.proofs.lemmas.Result.{err_from_is_err_and}
use Rattle.wat.specs.Headline.{Deserves}
use Rattle.wat.proofs.Runs.{deserved_run, deserved_reader, deserved_writer}
use Rattle.wat.proofs.runner.run_into.Goals as goal

pub returns-in_err-binary-clause-runs : goal.returns-in_err-binary-clause-runs
returns-in_err-binary-clause-runs g c =
    let back = err_from_is_err_and c.from_residual.result c.from_residual.ensures.1 in
    let given = c.in-Ok.ensures.given in
    rw (back.1, back.2)
    (deserved_run 4294967296 _ _ _ c.read_within.new.input.items given.0 c.in_err-binary.field-0.0 given.1 given.2 given.3
    c.in-Ok.ensures.whole
    (subst (λ l. Deserves l c.in_err-binary.field-0.0) c.as_slice.ensures.value c.in_err-binary.ensures.answers))

pub returns-in_err-binary-clause-reader_failures :
    goal.returns-in_err-binary-clause-reader_failures
returns-in_err-binary-clause-reader_failures g c =
    let back = err_from_is_err_and c.from_residual.result c.from_residual.ensures.1 in
    rw (back.1, back.2)
    (deserved_reader c.as_slice.result.now c.args.reader.now.failures c.read_within.new.reader.failures c.in_err-binary.field-0.0
    c.in_err-binary.ensures.answers c.in-Ok.ensures.failures)

pub returns-in_err-binary-clause-writer_failures :
    goal.returns-in_err-binary-clause-writer_failures
returns-in_err-binary-clause-writer_failures g c =
    let back = err_from_is_err_and c.from_residual.result c.from_residual.ensures.1 in
    rw (back.1, back.2)
    (deserved_writer c.as_slice.result.now c.args.writer.now.failures c.in_err-binary.field-0.0 c.in_err-binary.ensures.answers)
