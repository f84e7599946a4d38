use Rattle.wast_grammar.proofs.TokenLaws.{word_laws}
use Rattle.wast_parser_core.proofs.keyword.KeywordMeaning.lawful.Goals as goal

pub returns : goal.returns
returns g c = word_laws g.N.KeywordName.word
