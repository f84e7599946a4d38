use Rattle.wast_signatures.proofs.SignatureLaws.{bare_use_laws}
use Rattle.wast_signatures.proofs.type_use.TypeUseFunctionTypeNoNamesMeaning.lawful.Goals as goal

pub returns : goal.returns
returns c = bare_use_laws
