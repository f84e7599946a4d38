use Rattle.wasm_encoder_code.proofs.Places.{places}
use Rattle.wasm_encoder_code.proofs.laws.places.Goals as goal

pub returns : goal.returns
returns c = places
