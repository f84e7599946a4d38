use Rattle.wast_parser_core.proofs.IntegerLaws.{name_laws}
use Rattle.wast_parser_core.proofs.text.StringMeaning.lawful.Goals as goal

pub returns : goal.returns
returns c = name_laws
