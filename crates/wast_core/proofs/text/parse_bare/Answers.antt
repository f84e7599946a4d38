use Rattle.std.proofs.Common.{map}
use Rattle.wast_parser.specs.State.{ahead}
use Rattle.wast_parser.specs.Grammar.{seq, many}
use Rattle.wast_module_fields.specs.FieldSyntax.{field_starts, field}
use Rattle.wast_module_fields.specs.ModuleFieldViews.{field_tree}
use Rattle.wast_core.proofs.Alone.{of_list, none_listed}
use Rattle.wast_core.proofs.text.parse_bare.Goals as goal

pub returns-in-Ok-clause-read : goal.returns-in-Ok-clause-read
returns-in-Ok-clause-read c =
    of_list (seq field (many field_starts field)).reads (ahead c.args.parser.now) (map field_tree c.in-Ok.fields.items) c.module_of.result c.some_of.new.parser c.in-Ok.ensures.read c.module_of.ensures

pub returns-in-Err-clause-read : goal.returns-in-Err-clause-read
returns-in-Err-clause-read c =
    none_listed (seq field (many field_starts field)).reads (ahead c.args.parser.now) c.in-Err.e c.in-Err.ensures.read
