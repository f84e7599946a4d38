use Rattle.wast_value_types.proofs.ValueLaws.{limits_laws}
use Rattle.wast_value_types.proofs.limits.LimitsMeaning.lawful.Goals as goal

pub returns : goal.returns
returns c = limits_laws
