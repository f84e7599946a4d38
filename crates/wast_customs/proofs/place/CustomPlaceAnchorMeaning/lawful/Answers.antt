use Rattle.wast_customs.proofs.CustomLaws.{anchor_laws}
use Rattle.wast_customs.proofs.place.CustomPlaceAnchorMeaning.lawful.Goals as goal

pub returns : goal.returns
returns c = anchor_laws
