use Rattle.wast_lexer.proofs.TilingLaws.{once}
use Rattle.wast_lexer.proofs.laws.one_token.Goals as goal

pub returns : goal.returns
returns c = once
