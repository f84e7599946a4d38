use Rattle.std.proofs.Common.{◌+◌, ◌≤◌, map, take}
use Rattle.wast_module_fields.specs.ModuleFieldViews.{field_tree}
use Rattle.wast_binary.specs.Weight.{total, weight}
use Rattle.wast_binary.proofs.room.behind_fields.Given as goal

abbrev pub invariant-loop-field : goal.invariant-loop-field
invariant-loop-field l = l.left + total weight (map field_tree (take l.field-index l.fields)) ≤ l.room
