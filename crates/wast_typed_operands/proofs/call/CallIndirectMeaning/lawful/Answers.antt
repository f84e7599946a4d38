use Rattle.wast_typed_operands.proofs.TypedLaws.{indirect_laws}
use Rattle.wast_typed_operands.proofs.call.CallIndirectMeaning.lawful.Goals as goal

pub returns : goal.returns
returns c = indirect_laws
