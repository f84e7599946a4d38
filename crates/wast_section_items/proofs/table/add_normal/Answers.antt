use Rattle.wast_section_items.proofs.Initialized.{adds_table}
use Rattle.wast_section_items.proofs.table.add_normal.Goals as goal

pub returns-in-None : goal.returns-in-None
returns-in-None c = rw (c.in-None.is) (adds_table _ _ _ _ c.add_table.result c.table_type.ensures.same c.table_type.ensures.sound c.add_table.ensures)
