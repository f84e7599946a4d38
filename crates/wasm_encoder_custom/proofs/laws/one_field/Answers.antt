use Rattle.wasm_encoder_custom.proofs.UniqueParts.{unique_field}
use Rattle.wasm_encoder_custom.proofs.laws.one_field.Goals as goal

pub returns : goal.returns
returns c = unique_field
