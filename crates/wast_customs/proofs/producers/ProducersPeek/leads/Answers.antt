use Rattle.wast_customs.proofs.CustomLaws.{producers_leads}
use Rattle.wast_customs.proofs.producers.ProducersPeek.leads.Goals as goal

pub returns : goal.returns
returns c = producers_leads
