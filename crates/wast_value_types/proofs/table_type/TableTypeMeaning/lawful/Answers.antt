use Rattle.wast_value_types.proofs.ValueLaws.{table_type_laws}
use Rattle.wast_value_types.proofs.table_type.TableTypeMeaning.lawful.Goals as goal

pub returns : goal.returns
returns c = table_type_laws
