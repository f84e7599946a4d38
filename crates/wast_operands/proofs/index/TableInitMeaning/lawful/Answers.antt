use Rattle.wast_operands.proofs.OperandLaws.{one_or_two_laws}
use Rattle.wast_operands.proofs.index.TableInitMeaning.lawful.Goals as goal

pub returns : goal.returns
returns c = one_or_two_laws
