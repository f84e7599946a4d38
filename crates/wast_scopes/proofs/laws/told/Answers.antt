use Rattle.wast_scopes.proofs.Told.{mention_is, part_is}
use Rattle.wast_scopes.proofs.laws.told.Goals as goal

pub returns : goal.returns
returns c = record { mention = mention_is; part = part_is }
