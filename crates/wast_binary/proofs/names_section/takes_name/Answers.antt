use Rattle.std.proofs.Common.{codes, ◌∙◌}
use Rattle.wast_binary.proofs.Called.{one_called, none_called}
use Rattle.wast_binary.proofs.names_section.takes_name.Goals as goal

pub returns-in-Custom : goal.returns-in-Custom
returns-in-Custom c = c.eq.ensures ∙ one_called (codes "name") c.args.field.now _ c.name.result.now c.in-Custom.is c.name.ensures

pub returns-in_default : goal.returns-in_default
returns-in_default c = none_called (codes "name") c.args.field.now c.in_default.not-Custom
