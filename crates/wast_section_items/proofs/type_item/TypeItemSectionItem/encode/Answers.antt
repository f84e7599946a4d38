use Rattle.wast_section_items.proofs.TypeEntries.{adds_type}
use Rattle.wast_section_items.proofs.type_item.TypeItemSectionItem.encode.Goals as goal

pub returns-in-Ok : goal.returns-in-Ok
returns-in-Ok c = adds_type _ _ _ _ c.add_type.result c.in-Ok.ensures.same c.in-Ok.ensures.sound c.add_type.ensures
