use Rattle.wast_signatures.proofs.SignatureSamples.{val_types_spelled}
use Rattle.wast_signatures.proofs.signature.SeveralValTypeBody.spelled.Goals as goal

pub returns : goal.returns
returns c = val_types_spelled
