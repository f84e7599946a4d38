use Rattle.wast_signatures.proofs.SignatureSamples.{sig_spelled}
use Rattle.wast_signatures.proofs.signature.FunctionTypeBody.spelled.Goals as goal

pub returns : goal.returns
returns c = sig_spelled
