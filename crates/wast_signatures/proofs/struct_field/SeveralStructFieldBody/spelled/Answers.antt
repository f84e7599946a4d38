use Rattle.wast_signatures.proofs.SignatureSamples.{named_fields_spelled}
use Rattle.wast_signatures.proofs.struct_field.SeveralStructFieldBody.spelled.Goals as goal

pub returns : goal.returns
returns c = named_fields_spelled
