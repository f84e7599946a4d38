use Rattle.wast_operands.proofs.OperandLaws.{index_count_laws}
use Rattle.wast_operands.proofs.index.ArrayNewFixedMeaning.lawful.Goals as goal

pub returns : goal.returns
returns c = index_count_laws
