use Rattle.wast_customs.proofs.CustomLaws.{custom_place_laws}
use Rattle.wast_customs.proofs.place.CustomPlaceMeaning.lawful.Goals as goal

pub returns : goal.returns
returns c = custom_place_laws
