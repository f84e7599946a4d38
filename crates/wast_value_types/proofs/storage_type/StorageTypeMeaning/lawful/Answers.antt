use Rattle.wast_value_types.proofs.ValueLaws.{storage_type_laws}
use Rattle.wast_value_types.proofs.storage_type.StorageTypeMeaning.lawful.Goals as goal

pub returns : goal.returns
returns c = storage_type_laws
