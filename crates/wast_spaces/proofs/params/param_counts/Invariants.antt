use Rattle.std.proofs.Common.{◌≡◌, map, take}
use Rattle.std.specs.List.{flat_map}
use Rattle.wast_module_fields.specs.ModuleFieldViews.{field_tree}
use Rattle.wast_meaning.specs.Implied.{written_types}
use Rattle.wast_spaces.specs.Params.{param_count}
use Rattle.wast_spaces.proofs.params.param_counts.Given as goal

abbrev pub invariant-loop-field : goal.invariant-loop-field
invariant-loop-field l = l.counts.items ≡ map param_count (flat_map written_types (map field_tree (take l.field-index l.fields)))
