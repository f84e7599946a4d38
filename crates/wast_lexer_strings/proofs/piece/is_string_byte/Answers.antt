use Rattle.std.proofs.Common.{◌∙◌, ap, arith, false, ◌≡◌, ◌+◌}
use Rattle.wast_lexer_strings.specs.Strings.{is_string_byte}
use Rattle.wast_lexer_strings.proofs.ByteTable.{upto_is}
use Rattle.wast_lexer_strings.proofs.piece.is_string_byte.Goals as goal

pub returns : goal.returns
returns c = let e : 0 + c.args.byte ≡ c.args.byte = omega arith in upto_is is_string_byte 256 0 c.args.byte false (omega (arith, c.ranges.byte)) ∙ ap is_string_byte e
