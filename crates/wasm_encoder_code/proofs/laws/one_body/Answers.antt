use Rattle.wasm_encoder_code.proofs.Unique.{one_body}
use Rattle.wasm_encoder_code.proofs.laws.one_body.Goals as goal

pub returns : goal.returns
returns c = one_body
