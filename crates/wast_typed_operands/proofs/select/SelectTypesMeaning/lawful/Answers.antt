use Rattle.wast_typed_operands.proofs.TypedLaws.{select_types_laws}
use Rattle.wast_typed_operands.proofs.select.SelectTypesMeaning.lawful.Goals as goal

pub returns : goal.returns
returns c = select_types_laws
