use Rattle.wast_typed_operands.proofs.TypedLaws.{try_table_laws}
use Rattle.wast_typed_operands.proofs.block.TryTableMeaning.lawful.Goals as goal

pub returns : goal.returns
returns c = try_table_laws
