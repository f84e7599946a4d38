use Rattle.std.proofs.Common.{arith}
use Rattle.wasm_encoder_code.proofs.Runs.{first_joined}
use Rattle.wasm_encoder_code.proofs.locals.first_run.Goals as goal

pub returns-in-len1-up-clause-joined : goal.returns-in-len1-up-clause-joined
returns-in-len1-up-clause-joined c = rw c.leading.ensures.value (first_joined _ c.args.locals.now (omega arith))
