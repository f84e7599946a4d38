use Rattle.wasm_encoder_custom.proofs.UniqueParts.{unique_custom}
use Rattle.wasm_encoder_custom.proofs.laws.one_custom.Goals as goal

pub returns : goal.returns
returns c = unique_custom
