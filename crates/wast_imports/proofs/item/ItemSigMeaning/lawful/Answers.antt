use Rattle.wast_imports.proofs.ImportLaws.{item_laws}
use Rattle.wast_imports.proofs.item.ItemSigMeaning.lawful.Goals as goal

pub returns : goal.returns
returns c = item_laws
