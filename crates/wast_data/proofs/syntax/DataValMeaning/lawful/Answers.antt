use Rattle.wast_data.proofs.DataLaws.{value_laws}
use Rattle.wast_data.proofs.syntax.DataValMeaning.lawful.Goals as goal

pub returns : goal.returns
returns c = value_laws
