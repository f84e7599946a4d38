use Rattle.wast_expression_rows.proofs.OpLaws.{op_spelled}
use Rattle.wast_expression_rows.proofs.op.OpOperation.spelled.Goals as goal

pub returns : goal.returns
returns c = op_spelled
