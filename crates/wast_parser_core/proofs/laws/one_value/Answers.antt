use Rattle.wast_grammar.proofs.GrammarLaws.{one_value}
use Rattle.wast_parser_core.proofs.laws.one_value.Goals as goal

pub returns : goal.returns
returns g c = λ n v w ts. one_value g.T.Meaning.syntax c.lawful.ensures n ts v w
