use Rattle.wast_parser_core.proofs.Parens.{open_laws}
use Rattle.wast_parser_core.proofs.paren.LParenMeaning.lawful.Goals as goal

pub returns : goal.returns
returns c = open_laws
