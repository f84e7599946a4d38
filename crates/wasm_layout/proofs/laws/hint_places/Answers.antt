use Rattle.wasm_layout.proofs.HintPlaces as places
use Rattle.wasm_layout.proofs.laws.hint_places.Goals as goal

pub returns : goal.returns
returns c = places.hint_places
