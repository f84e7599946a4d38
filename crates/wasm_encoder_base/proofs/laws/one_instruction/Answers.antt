use Rattle.wasm_encoder_base.proofs.UniqueInstr.{unique_instr, unique_expr}
use Rattle.wasm_encoder_base.proofs.laws.one_instruction.Goals as goal

pub returns : goal.returns
returns c = record { instructions = unique_instr; expressions = unique_expr }
