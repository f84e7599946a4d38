use Rattle.wast_section_items.proofs.Entries.{adds_imports}
use Rattle.wast_section_items.proofs.import.ImportsSectionItem.encode.Goals as goal

pub returns-in-Ok : goal.returns-in-Ok
returns-in-Ok c = adds_imports _ _ _ _ c.add_imports.result c.in-Ok.ensures.same c.in-Ok.ensures.sound c.add_imports.ensures
