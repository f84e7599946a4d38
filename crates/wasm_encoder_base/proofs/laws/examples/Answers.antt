use Rattle.wasm_encoder_base.proofs.Examples.{function_type, call_indirect, memory_init, br_table, load, br_on_cast, try, float}
use Rattle.wasm_encoder_base.proofs.Entries.{samples_listed}
use Rattle.wasm_encoder_base.proofs.laws.examples.Goals as goal

pub returns : goal.returns
returns c = record { function_type = function_type; entries = samples_listed; indices = call_indirect; segments = memory_init; labels = br_table; memory_argument = load; reference_types = br_on_cast; catch_clauses = try; float = float }
