use Rattle.wast_grammar.proofs.TextLaws.{integer_is}
use Rattle.wast_grammar.proofs.laws.integer_value.Goals as goal

pub returns : goal.returns
returns c = integer_is
