use Rattle.std.proofs.Common.{◌∙◌, ap, refl, false, Some, sym, subst}
use Rattle.wast_parser.specs.Look.{Test, On, AFloat, Any, integer_starts}
use Rattle.wast_parser.specs.State.{ahead}
use Rattle.wast_parser.specs.Reading.{Asks}
use Rattle.wast_parser.specs.Cursors.{stands}
use Rattle.wast_vector_operands.proofs.FlatLooks.{first_seen, first_untold, first_other}
use Rattle.wast_vector_operands.proofs.vector.FloatLitPeek.peek.Goals as goal

abbrev front : Test
front = On false AFloat Any

pub returns-in-Ok-true : goal.returns-in-Ok-true
returns-in-Ok-true c = first_seen front integer_starts (ahead (stands c.args.cursor)) refl refl (c.in-Ok-true.ensures ∙ ap (λ b. Some b) c.in-Ok-true.field-0-test)

pub returns-in-Ok-false : goal.returns-in-Ok-false
returns-in-Ok-false c =
    let s = stands c.args.cursor in
    subst (Asks c.peek_integer.result s.source) (sym (first_other front integer_starts (ahead s) refl refl refl (c.in-Ok-false.ensures ∙ ap (λ b. Some b) c.in-Ok-false.field-0-test))) c.peek_integer.ensures

pub returns-in-Err : goal.returns-in-Err
returns-in-Err c = (first_untold front integer_starts (ahead (stands c.args.cursor)) refl refl c.in-Err.ensures.0, c.in-Err.ensures.1)
