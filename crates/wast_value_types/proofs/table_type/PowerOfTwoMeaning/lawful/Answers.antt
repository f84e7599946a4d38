use Rattle.wast_value_types.proofs.ValueLaws.{power_of_two_laws}
use Rattle.wast_value_types.proofs.table_type.PowerOfTwoMeaning.lawful.Goals as goal

pub returns : goal.returns
returns c = power_of_two_laws
