use Rattle.std.proofs.Common.{◌∙◌}
use Rattle.wast_section_items.proofs.Segments.{adds_functions}
use Rattle.wast_section_items.proofs.elem.add_functions.Goals as goal

pub returns-in-Ok : goal.returns-in-Ok
returns-in-Ok c = adds_functions _ _ _ _ _ c.add_elements.result (c.borrowed.ensures ∙ c.deref.ensures.value ∙ c.in-Ok.ensures.same) c.in-Ok.ensures.sound c.add_elements.ensures.sound c.add_elements.ensures.same
