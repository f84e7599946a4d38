use Rattle.wast_names.proofs.Duplicates.{one_place}
use Rattle.wast_names.proofs.laws.one_place.Goals as goal

pub returns : goal.returns
returns c = one_place
