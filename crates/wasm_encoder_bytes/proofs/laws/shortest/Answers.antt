use Rattle.wasm_encoder_bytes.proofs.Shortest.{shortest-unsigned, shortest-signed}
use Rattle.wasm_encoder_bytes.proofs.laws.shortest.Goals as goal

pub returns : goal.returns
returns c = record { unsigned = shortest-unsigned; signed = shortest-signed }
