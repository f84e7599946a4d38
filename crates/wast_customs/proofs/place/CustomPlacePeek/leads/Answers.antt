use Rattle.wast_customs.proofs.CustomLaws.{custom_place_leads}
use Rattle.wast_customs.proofs.place.CustomPlacePeek.leads.Goals as goal

pub returns : goal.returns
returns c = custom_place_leads 0
