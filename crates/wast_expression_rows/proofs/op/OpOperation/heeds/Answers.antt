use Rattle.wast_expression_rows.proofs.OpLaws.{op_heeds}
use Rattle.wast_expression_rows.proofs.op.OpOperation.heeds.Goals as goal

pub returns : goal.returns
returns c = op_heeds
