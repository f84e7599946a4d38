use Rattle.wast_value_types.proofs.ValueLaws.{val_type_laws}
use Rattle.wast_value_types.proofs.val_type.ValTypeMeaning.lawful.Goals as goal

pub returns : goal.returns
returns c = val_type_laws
