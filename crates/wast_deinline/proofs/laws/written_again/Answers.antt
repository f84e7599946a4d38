use Rattle.wast_meaning.proofs.Again as again
use Rattle.wast_deinline.proofs.laws.written_again.Goals as goal

pub returns : goal.returns
returns c = again.written_again
