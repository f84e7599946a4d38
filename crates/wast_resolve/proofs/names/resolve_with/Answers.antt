use Rattle.std.proofs.Common.{map}
use Rattle.wast_core.specs.ModuleFieldViews.{field_tree}
use Rattle.wast_resolve.proofs.Telling.{items_told}
use Rattle.wast_resolve.proofs.names.resolve_with.Goals as goal

pub returns-in-Ok-clause-names : goal.returns-in-Ok-clause-names
returns-in-Ok-clause-names c = items_told c.args.spaces (map field_tree c.args.fields.now.items) c.requires.spaces
