use Rattle.wast_signatures.proofs.SignatureSamples.{named_locals_spelled}
use Rattle.wast_signatures.proofs.signature.SeveralParamBody.spelled.Goals as goal

pub returns : goal.returns
returns c = named_locals_spelled
