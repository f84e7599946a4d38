use Rattle.wasm_encoder_code.proofs.JoinedRuns.{locals_joined, runs_joined}
use Rattle.wasm_encoder_code.proofs.laws.runs.Goals as goal

pub returns : goal.returns
returns c = record { locals_joined = locals_joined; runs_joined = runs_joined }
