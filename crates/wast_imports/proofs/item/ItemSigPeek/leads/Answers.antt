use Rattle.wast_imports.proofs.Samples.{item_leads}
use Rattle.wast_imports.proofs.item.ItemSigPeek.leads.Goals as goal

pub returns : goal.returns
returns c = item_leads 0
