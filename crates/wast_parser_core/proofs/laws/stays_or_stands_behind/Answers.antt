use Rattle.wast_parser_core.proofs.Standing.{stays_or_behind}
use Rattle.wast_parser_core.proofs.laws.stays_or_stands_behind.Goals as goal

pub returns : goal.returns
returns c = stays_or_behind
