use Rattle.std.proofs.Common.{arith}
use Rattle.wast_module_fields.specs.ModuleFieldViews.{field_tree}
use Rattle.wast_binary.specs.Weight.{weight}
use Rattle.wast_binary.proofs.Totals.{one_behind, all_behind}
use Rattle.wast_binary.proofs.room.behind_fields.Goals as goal

pub loop-field-preserved : goal.loop-field-preserved
loop-field-preserved c = one_behind weight field_tree c.args.fields.now c.loop-field.field-index _ _ _ _ (omega arith) c.field-item.is c.loop-field.invariant c.in-Some.ensures

pub returns : goal.returns
returns c = all_behind weight field_tree c.args.fields.now c.loop-field.field-index _ _ (omega arith) c.loop-field.invariant
