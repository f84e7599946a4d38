use Rattle.wat_laws.proofs.Unnamed as unnamed
use Rattle.wat_laws.proofs.laws.without_names.Goals as goal

pub returns : goal.returns
returns c = unnamed.without_names
