use Rattle.wast_parser_core.proofs.Parens.{close_laws}
use Rattle.wast_parser_core.proofs.paren.RParenMeaning.lawful.Goals as goal

pub returns : goal.returns
returns c = close_laws
