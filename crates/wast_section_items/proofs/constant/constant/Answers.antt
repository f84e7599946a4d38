use Rattle.wast_section_items.proofs.Constants.{is_expression}
use Rattle.wast_section_items.proofs.constant.constant.Goals as goal

pub returns-clause-sound : goal.returns-clause-sound
returns-clause-sound c = is_expression _ c.const_expr.result c.requires.ready.balanced c.const_expr.ensures.sound
