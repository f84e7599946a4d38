use Rattle.std.proofs.Common.{arith, sym, subst}
use Rattle.wast_lexer_strings.specs.Strings.{IsString}
use Rattle.wast_lexer_strings.proofs.StringScanLaws.{not_read, all_read, past_read}
use Rattle.wast_lexer_strings.proofs.string.string_value.Goals.{then-elements-test+else-word-at-ne34, else-elements-test}
use Rattle.wast_lexer_strings.proofs.string.string_value.Goals as goal

pub returns-in-Err : goal.returns-in-Err
returns-in-Err c = absurd (not_read c.args.word.now c.requires.0 c.elements.out.items c.elements.at c.requires.1 c.elements.invariant.rest c.in-Err.ensures)

pub returns : goal.returns
returns c = subst (IsString c.args.word.now) (sym c.shrink_to_fit.ensures.items) (elim c.elements-test.branch [
  | then-elements-test+else-word-at-ne34 w ↦ all_read c.args.word.now c.requires.0 c.elements.out.items c.elements.at (omega (arith, w.elements-test.true)) w.if-word-at-ne34.false c.requires.1 c.elements.invariant.rest
  | else-elements-test w ↦ absurd (past_read c.args.word.now c.requires.0 c.elements.out.items c.elements.at w.elements-test.false c.requires.1 c.elements.invariant.rest)
])
