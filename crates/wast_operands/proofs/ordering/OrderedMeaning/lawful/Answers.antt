use Rattle.wast_operands.proofs.OperandLaws.{ordered_laws}
use Rattle.wast_operands.proofs.ordering.OrderedMeaning.lawful.Goals as goal

pub returns : goal.returns
returns g c = ordered_laws g.T.Meaning.syntax c.lawful.ensures g.met.T.Unordered.clear
