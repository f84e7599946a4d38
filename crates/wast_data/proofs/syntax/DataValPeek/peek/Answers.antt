use Rattle.std.proofs.Common.{true, false, Ok, Err, Some, refl, ◌∙◌, ap}
use Rattle.wast_parser.specs.Look.{string_starts}
use Rattle.wast_parser.specs.State.{ahead}
use Rattle.wast_parser.specs.Cursors.{stands}
use Rattle.wast_value_types.proofs.JoinedLooks.{first_asked, second_asked, none_asked}
use Rattle.wast_data.specs.DataSyntax.{group_starts}
use Rattle.wast_data.proofs.syntax.DataValPeek.peek.Goals as goal

pub returns-in-Ok-true : goal.returns-in-Ok-true
returns-in-Ok-true c = first_asked string_starts group_starts (ahead (stands c.args.cursor)) (Ok true) c.args.cursor.parser.now.source true refl refl refl (c.in-Ok-true.ensures ∙ ap Some c.in-Ok-true.field-0-test)

pub returns-in-Ok-false : goal.returns-in-Ok-false
returns-in-Ok-false c = second_asked string_starts group_starts (ahead (stands c.args.cursor)) (Ok false) c.args.cursor.parser.now.source false refl refl (c.in-Ok-false.ensures ∙ ap Some c.in-Ok-false.field-0-test) c.peek_group_among.result c.peek_group_among.ensures

pub returns-in-Err : goal.returns-in-Err
returns-in-Err c = none_asked string_starts group_starts (ahead (stands c.args.cursor)) (Err c.in-Err.e) c.args.cursor.parser.now.source c.in-Err.e refl c.in-Err.ensures
