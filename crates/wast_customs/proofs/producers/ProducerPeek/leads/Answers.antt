use Rattle.wast_customs.proofs.CustomLaws.{producer_leads}
use Rattle.wast_customs.proofs.producers.ProducerPeek.leads.Goals as goal

pub returns : goal.returns
returns c = producer_leads 0
