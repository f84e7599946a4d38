use Rattle.wast_core_types.proofs.TypeLaws.{type_item_laws}
use Rattle.wast_core_types.proofs.definition.TypeItemMeaning.lawful.Goals as goal

pub returns : goal.returns
returns c = type_item_laws
