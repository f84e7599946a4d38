use Rattle.wast_customs.proofs.CustomLaws.{producers_laws}
use Rattle.wast_customs.proofs.producers.ProducersMeaning.lawful.Goals as goal

pub returns : goal.returns
returns c = producers_laws
