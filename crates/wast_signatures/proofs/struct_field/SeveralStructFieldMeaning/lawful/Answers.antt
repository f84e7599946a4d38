use Rattle.wast_signatures.proofs.SignatureLaws.{named_fields_laws}
use Rattle.wast_signatures.proofs.struct_field.SeveralStructFieldMeaning.lawful.Goals as goal

pub returns : goal.returns
returns c = named_fields_laws
