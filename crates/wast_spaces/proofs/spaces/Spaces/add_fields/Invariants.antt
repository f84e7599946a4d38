use Rattle.std.proofs.Common.{take}
use Rattle.std.specs.List.{flat_map}
use Rattle.wast_spaces.specs.Joins.{Joined}
use Rattle.wast_spaces.proofs.Fields.{field_items}
use Rattle.wast_spaces.proofs.spaces.Spaces.add_fields.Given as goal

abbrev pub invariant-loop-field : goal.invariant-loop-field
invariant-loop-field l = Joined l.fn.self l.self (flat_map field_items (take l.field-index l.fields))
