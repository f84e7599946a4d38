use Rattle.std.proofs.Common.{◌∙◌, ap, refl, false, Some, sym, subst}
use Rattle.std.specs.Prelude.{codes}
use Rattle.wast_vector_operands.specs.Look.{Test, On, AWord, Begun, integer_starts}
use Rattle.wast_vector_operands.specs.State.{ahead}
use Rattle.wast_vector_operands.specs.Reading.{Asks}
use Rattle.wast_vector_operands.proofs.FlatLooks.{first_seen, first_untold, first_other}
use Rattle.wast_operands.proofs.mem_arg.peek_align.Goals as goal

abbrev front : Test
front = On false AWord (Begun (codes "align="))

pub returns-in-Ok-true : goal.returns-in-Ok-true
returns-in-Ok-true c = first_seen front (integer_starts) (ahead c.args.parser.now) refl refl (c.in-Ok-true.ensures ∙ ap (λ b. Some b) c.in-Ok-true.field-0-test)

pub returns-in-Ok-false : goal.returns-in-Ok-false
returns-in-Ok-false c =
    let s = c.args.parser.now in
    subst (Asks c.peek.result s.source) (sym (first_other front (integer_starts) (ahead s) refl refl refl (c.in-Ok-false.ensures ∙ ap (λ b. Some b) c.in-Ok-false.field-0-test))) c.peek.ensures

pub returns-in-Err : goal.returns-in-Err
returns-in-Err c = (first_untold front (integer_starts) (ahead c.args.parser.now) refl refl c.in-Err.ensures.0, c.in-Err.ensures.1)
