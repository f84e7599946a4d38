use Rattle.std.proofs.Common.{map}
use Rattle.wast_core.specs.ModuleFieldViews.{field_tree}
use Rattle.wast_resolve.proofs.Telling.{told}
use Rattle.wast_resolve.proofs.names.number_met.Goals as goal

pub returns-in-Ok-clause-numbered : goal.returns-in-Ok-clause-numbered
returns-in-Ok-clause-numbered c = c.in-Ok.ensures (told c.args.spaces.now (map field_tree c.args.fields.now.items) c.requires.spaces c.requires.fields)
