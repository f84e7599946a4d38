use Rattle.std.proofs.Common.{refl, sym, ap, ◌∙◌, Some}
use Rattle.wast_parser_core.specs.State.{ahead}
use Rattle.wast_parser_core.proofs.States.{asks_so}
use Rattle.wast_expressions.proofs.Peeks.{word_open, word_none, word_fault}
use Rattle.wast_expressions.proofs.look.peek_led.Goals as goal

pub returns-in-Ok-true : goal.returns-in-Ok-true
returns-in-Ok-true g c = asks_so _ _ _ _ _ refl (sym (word_open g.T.Meaning.syntax.starts c.requires.0 c.requires.1 (ahead c.args.parser.now) (c.in-Ok-true.ensures ∙ ap (λ v. Some v) c.in-Ok-true.field-0-test))) c.peek2.ensures

pub returns-in-Ok-false : goal.returns-in-Ok-false
returns-in-Ok-false g c = word_none g.T.Meaning.syntax.starts c.requires.0 c.requires.1 (ahead c.args.parser.now) (c.in-Ok-false.ensures ∙ ap (λ v. Some v) c.in-Ok-false.field-0-test)

pub returns-in-Err : goal.returns-in-Err
returns-in-Err g c = (word_fault g.T.Meaning.syntax.starts c.requires.0 c.requires.1 (ahead c.args.parser.now) c.in-Err.ensures.0, c.in-Err.ensures.1)
