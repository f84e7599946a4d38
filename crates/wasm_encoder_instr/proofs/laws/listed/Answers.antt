use Rattle.wasm_encoder_instr.proofs.InTable.{all_listed, nullability_listed}
use Rattle.wasm_encoder_instr.proofs.laws.listed.Goals as goal

pub returns : goal.returns
returns c = record { entries = all_listed; nullability = nullability_listed }
