use Rattle.wasm_encoder_bytes.proofs.UniqueLeb.{unique_uleb, unique_sleb}
use Rattle.wasm_encoder_bytes.proofs.UniqueBytes.{unique_counted, unique_name}
use Rattle.wasm_encoder_bytes.proofs.laws.one_reading.Goals as goal

pub returns : goal.returns
returns c = record { unsigned = unique_uleb; signed = unique_sleb; names = unique_name; lists = unique_counted unique_uleb }
