use Rattle.std.proofs.Common.{arith, sym}
use Rattle.wast_lexer_strings.proofs.StringScanLaws.{plain_none, plain_more}
use Rattle.wast_lexer_strings.proofs.piece.plain_end.Goals as goal

pub plain-init : goal.plain-init
plain-init c = record { low = omega arith; high = c.requires; passed = plain_none c.args.text.now c.args.from }

pub plain-preserved : goal.plain-preserved
plain-preserved c = record { low = omega (arith, c.plain.invariant.low); high = omega (arith, c.plain-test.true); passed = plain_more c.args.text.now c.args.from c.plain.at c.plain.invariant.low c.plain-test.true (sym c.if-is_string_byte.ensures) c.plain.invariant.passed }
