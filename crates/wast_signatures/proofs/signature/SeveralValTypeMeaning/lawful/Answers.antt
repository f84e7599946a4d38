use Rattle.wast_signatures.proofs.SignatureLaws.{val_types_laws}
use Rattle.wast_signatures.proofs.signature.SeveralValTypeMeaning.lawful.Goals as goal

pub returns : goal.returns
returns c = val_types_laws
