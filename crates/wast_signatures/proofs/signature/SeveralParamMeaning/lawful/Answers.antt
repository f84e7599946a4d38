use Rattle.wast_signatures.proofs.SignatureLaws.{named_locals_laws}
use Rattle.wast_signatures.proofs.signature.SeveralParamMeaning.lawful.Goals as goal

pub returns : goal.returns
returns c = named_locals_laws
