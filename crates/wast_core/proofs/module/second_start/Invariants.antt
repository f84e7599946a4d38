use Rattle.std.proofs.Common.{◌≡◌, map, drop, cond}
use Rattle.wast_module_fields.specs.FieldTree.{one_start, no_start}
use Rattle.wast_module_fields.specs.ModuleFieldViews.{field_tree}
use Rattle.wast_core.proofs.module.second_start.Given as goal

abbrev pub invariant-loop-field : goal.invariant-loop-field
invariant-loop-field l = let rest = map field_tree (drop l.field-index l.fields) in one_start (map field_tree l.fields) ≡ cond l.found (no_start rest) (one_start rest)
