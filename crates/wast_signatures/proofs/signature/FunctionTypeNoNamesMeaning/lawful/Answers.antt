use Rattle.wast_signatures.proofs.SignatureLaws.{bare_sig_laws}
use Rattle.wast_signatures.proofs.signature.FunctionTypeNoNamesMeaning.lawful.Goals as goal

pub returns : goal.returns
returns c = bare_sig_laws
