use Rattle.wast_signatures.proofs.SignatureLaws.{type_use_laws}
use Rattle.wast_signatures.proofs.type_use.TypeUseFunctionTypeMeaning.lawful.Goals as goal

pub returns : goal.returns
returns c = type_use_laws
