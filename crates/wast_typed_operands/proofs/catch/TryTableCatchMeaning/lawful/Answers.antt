use Rattle.wast_typed_operands.proofs.TypedLaws.{clause_laws}
use Rattle.wast_typed_operands.proofs.catch.TryTableCatchMeaning.lawful.Goals as goal

pub returns : goal.returns
returns c = clause_laws
