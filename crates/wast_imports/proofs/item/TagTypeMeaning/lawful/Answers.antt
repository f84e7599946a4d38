use Rattle.wast_signatures.proofs.SignatureLaws.{type_use_laws}
use Rattle.wast_imports.proofs.item.TagTypeMeaning.lawful.Goals as goal

pub returns : goal.returns
returns c = type_use_laws
