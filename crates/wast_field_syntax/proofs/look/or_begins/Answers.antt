use Rattle.wast_parser.specs.State.{ahead}
use Rattle.wast_value_types.proofs.JoinedLooks.{first_asked, second_asked, none_asked}
use Rattle.wast_field_syntax.proofs.look.or_begins.Goals as goal

pub returns-in-Ok-true : goal.returns-in-Ok-true
returns-in-Ok-true g c tests sure a =
    first_asked tests g.T.Meaning.syntax.starts (ahead c.args.parser.now) c.args.found c.args.parser.now.source c.in-Ok-true.field-0 c.in-Ok-true.is c.in-Ok-true.field-0-test sure a

pub returns-in-Ok-false : goal.returns-in-Ok-false
returns-in-Ok-false g c tests sure a =
    second_asked tests g.T.Meaning.syntax.starts (ahead c.args.parser.now) c.args.found c.args.parser.now.source c.in-Ok-false.field-0 c.in-Ok-false.is c.in-Ok-false.field-0-test a c.peek.result c.peek.ensures

pub returns-in-Err : goal.returns-in-Err
returns-in-Err g c tests sure a = none_asked tests g.T.Meaning.syntax.starts (ahead c.args.parser.now) c.args.found c.args.parser.now.source c.in-Err.e c.in-Err.is a
