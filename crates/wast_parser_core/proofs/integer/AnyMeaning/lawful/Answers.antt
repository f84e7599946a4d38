use Rattle.wast_grammar.proofs.GrammarLaws.{seen_laws}
use Rattle.wast_parser_core.specs.Integers.{number_in}
use Rattle.wast_parser_core.proofs.IntegerLaws.{number_laws}
use Rattle.wast_parser_core.proofs.integer.AnyMeaning.lawful.Goals as goal

pub returns : goal.returns
returns g c = let t = g.T.FixedInteger in seen_laws (λ x. x.0) (number_in t.most t.least t.says) (number_laws t.most t.least t.says)
