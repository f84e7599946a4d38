use Rattle.wasm_encoder_custom.proofs.UniqueNames.{unique_name_subsection}
use Rattle.wasm_encoder_custom.proofs.laws.one_name_subsection.Goals as goal

pub returns : goal.returns
returns c = unique_name_subsection
