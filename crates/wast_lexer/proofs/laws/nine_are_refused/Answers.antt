use Rattle.wast_lexer.proofs.CleanText.{clean_chars}
use Rattle.wast_lexer.proofs.laws.nine_are_refused.Goals as goal

pub returns : goal.returns
returns c = clean_chars
