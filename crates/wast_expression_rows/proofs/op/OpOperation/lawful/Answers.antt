use Rattle.wast_expression_rows.proofs.OpLaws.{op_laws}
use Rattle.wast_expression_rows.proofs.op.OpOperation.lawful.Goals as goal

pub returns : goal.returns
returns c = op_laws
