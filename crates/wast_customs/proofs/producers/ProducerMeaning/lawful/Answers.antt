use Rattle.wast_customs.proofs.CustomLaws.{producer_laws}
use Rattle.wast_customs.proofs.producers.ProducerMeaning.lawful.Goals as goal

pub returns : goal.returns
returns c = producer_laws
