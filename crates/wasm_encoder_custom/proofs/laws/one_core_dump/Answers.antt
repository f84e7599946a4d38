use Rattle.wasm_encoder_custom.proofs.UniqueDump.{unique_named, unique_instance, unique_value, unique_frame}
use Rattle.wasm_encoder_custom.proofs.laws.one_core_dump.Goals as goal

pub returns : goal.returns
returns c = record { names = unique_named; instances = unique_instance; values = unique_value; frames = unique_frame }
