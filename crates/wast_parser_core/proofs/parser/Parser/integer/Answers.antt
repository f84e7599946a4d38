use Rattle.std.proofs.Common.{subst}
use Rattle.wast_lexer.specs.NumberParts.{IsIntegerOf}
use Rattle.wast_lexer.specs.TokenText.{text_of}
use Rattle.wast_parser_core.proofs.Literals.{literal_is}
use Rattle.wast_parser_core.proofs.parser.Parser.integer.Goals as goal

pub returns-clause-literal : goal.returns-clause-literal
returns-clause-literal c = literal_is (text_of c.args.self.now.source.text c.args.token) c.integer.result (subst (λ t. IsIntegerOf (text_of t c.args.token) c.integer.result) c.text.ensures c.integer.ensures)

pub returns-clause-parts : goal.returns-clause-parts
returns-clause-parts c = subst (λ t. IsIntegerOf (text_of t c.args.token) c.integer.result) c.text.ensures c.integer.ensures
