use Rattle.wast_vector_operands.proofs.IdentifierLaws.{index_laws}
use Rattle.wast_operands.proofs.index.ArrayFillMeaning.lawful.Goals as goal

pub returns : goal.returns
returns c = index_laws
