use Rattle.wast_signatures.proofs.SignatureLaws.{sig_laws}
use Rattle.wast_signatures.proofs.signature.FunctionTypeMeaning.lawful.Goals as goal

pub returns : goal.returns
returns c = sig_laws
