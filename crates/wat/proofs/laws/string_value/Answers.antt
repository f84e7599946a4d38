use Rattle.wast_grammar.proofs.TextLaws.{string_is}
use Rattle.wat.proofs.laws.string_value.Goals as goal

pub returns : goal.returns
returns c = string_is
