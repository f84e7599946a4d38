use Rattle.wast_section_items.proofs.Segments.{adds_active}
use Rattle.wast_section_items.proofs.elem.add_active.Goals as goal

pub returns : goal.returns
returns c = adds_active c.args.table c.args.offset c.args.elements _ _ c.add_segment.result c.add_segment.ensures
