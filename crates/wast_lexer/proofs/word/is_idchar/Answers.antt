use Rattle.std.proofs.Common.{◌∙◌, ap, arith, false, ◌≡◌, ◌+◌}
use Rattle.wast_lexer.specs.Kinds.{is_idchar}
use Rattle.wast_lexer_strings.proofs.ByteTable.{upto_is}
use Rattle.wast_lexer.proofs.word.is_idchar.Goals as goal

pub returns : goal.returns
returns c = let e : 0 + c.args.byte ≡ c.args.byte = omega arith in upto_is is_idchar 256 0 c.args.byte false (omega (arith, c.ranges.byte)) ∙ ap is_idchar e
