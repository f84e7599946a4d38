use Rattle.std.proofs.Common.{◌≡◌, subst, Some}
use Rattle.wast_grammar.specs.Spelling.{that_one}
use Rattle.wast_grammar.specs.Grammar.{one_of}
use Rattle.wast_parser_core.specs.State.{ahead}
use Rattle.wast_parser_core.specs.Reading.{Refuses}
use Rattle.wast_parser_core.proofs.keyword.KeywordParse.parse.Goals as goal

pub returns-in-Ok-clause-read : goal.returns-in-Ok-clause-read
returns-in-Ok-clause-read g c = subst (λ w. one_of (that_one w) (ahead c.args.parser.now) ≡ Some (c.in-Ok.span, ahead c.word.new.self)) c.text.ensures c.in-Ok.ensures.read

pub returns-in-Err-clause-read : goal.returns-in-Err-clause-read
returns-in-Err-clause-read g c = subst (λ w. Refuses c.in-Err.e (one_of (that_one w) (ahead c.args.parser.now))) c.text.ensures c.in-Err.ensures.read
