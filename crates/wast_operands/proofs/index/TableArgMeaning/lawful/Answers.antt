use Rattle.wast_operands.proofs.OperandLaws.{optional_index_laws}
use Rattle.wast_operands.proofs.index.TableArgMeaning.lawful.Goals as goal

pub returns : goal.returns
returns c = optional_index_laws
