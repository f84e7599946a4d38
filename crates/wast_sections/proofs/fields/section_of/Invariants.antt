use Rattle.std.proofs.Common.{map, take}
use Rattle.std.specs.List.{flat_map}
use Rattle.wast_module_fields.specs.ModuleFieldViews.{field_tree}
use Rattle.wast_sections.proofs.Holding.{HoldsSoFar}
use Rattle.wast_sections.proofs.fields.section_of.Given as goal

abbrev pub invariant-loop-field : goal.invariant-loop-field
invariant-loop-field g l = HoldsSoFar g.K.FieldItems.spell g.K.FieldItems.Fits g.K.FieldItems.Sound (flat_map g.K.FieldItems.items (map field_tree (take l.field-index l.fields))) (g.K.FieldItems.listed l.section)
