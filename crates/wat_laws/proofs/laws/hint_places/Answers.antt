use Rattle.wat_laws.proofs.HintPlaces as places
use Rattle.wat_laws.proofs.laws.hint_places.Goals as goal

pub returns : goal.returns
returns c = places.hint_places
