use Rattle.wast_core_types.proofs.Samples.{type_item_leads}
use Rattle.wast_core_types.proofs.definition.TypeItemPeek.leads.Goals as goal

pub returns : goal.returns
returns c = type_item_leads 0
