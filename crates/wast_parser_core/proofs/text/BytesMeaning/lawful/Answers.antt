use Rattle.wast_grammar.proofs.GrammarLaws.{string_laws}
use Rattle.wast_parser_core.proofs.text.BytesMeaning.lawful.Goals as goal

pub returns : goal.returns
returns c = string_laws
