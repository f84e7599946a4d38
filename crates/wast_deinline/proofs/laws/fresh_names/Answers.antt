use Rattle.wast_deinline.proofs.FreshNames.{fresh_names}
use Rattle.wast_deinline.proofs.laws.fresh_names.Goals as goal

pub returns : goal.returns
returns c = fresh_names
