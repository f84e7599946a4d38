use Rattle.wasm_encoder_code.proofs.Unique.{one_expression}
use Rattle.wasm_encoder_code.proofs.laws.one_expression.Goals as goal

pub returns : goal.returns
returns c = one_expression
