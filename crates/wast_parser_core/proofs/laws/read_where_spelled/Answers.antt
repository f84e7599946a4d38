use Rattle.wast_grammar.proofs.GrammarLaws.{all_read, all_spelled}
use Rattle.wast_parser_core.proofs.laws.read_where_spelled.Goals as goal

pub returns : goal.returns
returns g c = let s = g.T.Meaning.syntax in λ n v ts. (all_read s c.lawful.ensures n ts v, all_spelled s c.lawful.ensures ts v)
