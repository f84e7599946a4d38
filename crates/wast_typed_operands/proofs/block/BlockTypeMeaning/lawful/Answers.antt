use Rattle.wast_typed_operands.proofs.TypedLaws.{block_laws}
use Rattle.wast_typed_operands.proofs.block.BlockTypeMeaning.lawful.Goals as goal

pub returns : goal.returns
returns c = block_laws
