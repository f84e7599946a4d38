use Rattle.wast_meant.proofs.OneMeaning as laws
use Rattle.wast_meant.proofs.laws.one_meaning.Goals as goal

pub returns : goal.returns
returns c = laws.one_meaning
