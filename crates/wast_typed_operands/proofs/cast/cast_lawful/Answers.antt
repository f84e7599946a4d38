use Rattle.wast_typed_operands.proofs.TypedLaws.{cast_laws}
use Rattle.wast_typed_operands.proofs.cast.cast_lawful.Goals as goal

pub returns : goal.returns
returns c = cast_laws
