use Rattle.wast_section_items.proofs.Segments.{adds_passive}
use Rattle.wast_section_items.proofs.data.add_data.Goals as goal

pub returns-in-Passive : goal.returns-in-Passive
returns-in-Passive c = rw (c.in-Passive.is) (adds_passive _ _ _ c.add_passive_data.result c.add_passive_data.ensures)

pub returns-in-Active : goal.returns-in-Active
returns-in-Active c = rw (c.in-Active.is) c.add_active.ensures
