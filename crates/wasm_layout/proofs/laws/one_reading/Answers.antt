use Rattle.wasm_layout.proofs.Readings as readings
use Rattle.wasm_layout.proofs.laws.one_reading.Goals as goal

pub returns : goal.returns
returns c = readings.one_reading
