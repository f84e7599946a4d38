use Rattle.std.proofs.Common.{sym}
use Rattle.wast_lexer.proofs.TokenTextLaws.{plain_is}
use Rattle.wast_lexer.proofs.read.plain_string.Goals as goal

pub returns-then-is_plain : goal.returns-then-is_plain
returns-then-is_plain c = (sym c.if-is_plain.ensures, plain_is c.args.word.now c.requires.0 c.requires.1 (sym c.if-is_plain.ensures))
