use Rattle.wast_operands.proofs.OperandLaws.{label_table_laws}
use Rattle.wast_operands.proofs.index.BrTableIndicesMeaning.lawful.Goals as goal

pub returns : goal.returns
returns c = label_table_laws
