use Rattle.wast_operands.proofs.OperandLaws.{optional_indices_laws}
use Rattle.wast_operands.proofs.index.MemoryCopyMeaning.lawful.Goals as goal

pub returns : goal.returns
returns c = optional_indices_laws
