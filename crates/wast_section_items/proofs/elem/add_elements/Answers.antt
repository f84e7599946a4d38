use Rattle.std.proofs.Common.{ap}
use Rattle.std.specs.Prelude.{Err, option_map}
use Rattle.wast_parser.specs.Identifiers.{index_tree}
use Rattle.wast_core_instr.specs.ExpressionViews.{expression_tree}
use Rattle.wast_conversions.proofs.Each.{anyway}
use Rattle.wast_section_items.proofs.Segments.{adds_active_elements}
use Rattle.wast_section_items.proofs.Writing.{written_as, unwritten}
use Rattle.wast_section_items.proofs.elem.add_elements.Goals as goal

pub returns-in-Passive-clause-same : goal.returns-in-Passive-clause-same
returns-in-Passive-clause-same c = rw (c.in-Passive.is) (written_as _ _ _ _ _ c.add_segment.result (λ h. (tt, h)) (λ h. h.1) c.add_segment.ensures)

pub returns-in-Passive-clause-sound : goal.returns-in-Passive-clause-sound
returns-in-Passive-clause-sound c = rw (c.in-Passive.is) (anyway c.add_segment.result tt)

pub returns-in-Declared-clause-same : goal.returns-in-Declared-clause-same
returns-in-Declared-clause-same c = rw (c.in-Declared.is) (written_as _ _ _ _ _ c.add_segment-in-Declared.result (λ h. (tt, h)) (λ h. h.1) c.add_segment-in-Declared.ensures)

pub returns-in-Declared-clause-sound : goal.returns-in-Declared-clause-sound
returns-in-Declared-clause-sound c = rw (c.in-Declared.is) (anyway c.add_segment-in-Declared.result tt)

pub returns-in-Ok-clause-same : goal.returns-in-Ok-clause-same
returns-in-Ok-clause-same c =
    rw (c.in-Active.is)
    (adds_active_elements (option_map index_tree c.in-Active.table) (expression_tree c.in-Active.offset) _ _ _ _ _ c.add_active.result c.table_index.ensures.same c.in-Ok.ensures.same.ok c.in-Ok.ensures.same.fit c.add_active.ensures)

pub returns-in-Ok-clause-sound : goal.returns-in-Ok-clause-sound
returns-in-Ok-clause-sound c = rw (c.in-Active.is) (anyway c.add_active.result (c.table_index.ensures.sound, c.in-Ok.ensures.sound))

pub returns-in-Err-clause-same : goal.returns-in-Err-clause-same
returns-in-Err-clause-same c = rw (c.in-Active.is) (unwritten _ _ _ c.in-Err.e (λ t fit. c.in-Err.ensures.same.too_large (ap Err t) fit.0))
