use Rattle.wast_value_types.specs.ValueViews.{ref_tree}
use Rattle.wast_deinline.proofs.split.set_apart.Goals as goal

pub returns-in_ok-segment-in-Table-Inline-clause-segment : goal.returns-in_ok-segment-in-Table-Inline-clause-segment
returns-in_ok-segment-in-Table-Inline-clause-segment c =
    rw (c.in-Table-Inline.is, c.in-Table-Inline.field-0-is) (c.in_ok-segment-in-Table-Inline.ensures (ref_tree c.in-Table-Inline.elem))

pub returns-in_ok-segment-in-Memory-Inline-clause-segment : goal.returns-in_ok-segment-in-Memory-Inline-clause-segment
returns-in_ok-segment-in-Memory-Inline-clause-segment c =
    rw (c.in-Memory-Inline.is, c.in-Memory-Inline.field-0-is) (c.in_ok-segment-in-Memory-Inline.ensures c.in-Memory-Inline.page_size_log2)
