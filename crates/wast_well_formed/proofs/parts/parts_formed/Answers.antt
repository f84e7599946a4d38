use Rattle.wast_module_fields.specs.ModuleFieldViews.{field_tree}
use Rattle.wast_meaning.specs.Mentions.{parts}
use Rattle.wast_meaning.specs.WellFormed.{part_formed}
use Rattle.wast_well_formed.proofs.Formed.{all_hold, one_fails}
use Rattle.wast_well_formed.proofs.parts.parts_formed.Goals as goal

pub returns-in-Ok : goal.returns-in-Ok
returns-in-Ok c = all_hold part_formed (parts (field_tree c.args.field.now)) c.in-Ok.ensures

pub returns-in-Err : goal.returns-in-Err
returns-in-Err c = one_fails part_formed (parts (field_tree c.args.field.now)) c.in-Err.ensures
