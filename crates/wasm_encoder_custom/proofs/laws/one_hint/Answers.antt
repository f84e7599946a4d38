use Rattle.wasm_encoder_custom.proofs.UniqueParts.{unique_function_hints}
use Rattle.wasm_encoder_custom.proofs.laws.one_hint.Goals as goal

pub returns : goal.returns
returns c = unique_function_hints
