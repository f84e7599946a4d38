use Rattle.wast_value_types.specs.ValueViews.{ref_tree, val_tree}
use Rattle.wast_meaning.specs.Mentions.{ref_mentions, val_mentions}
use Rattle.wast_implied.specs.Views.{known}
use Rattle.wast_implied.proofs.Quiet.{quiet_heap, quiet_val}
use Rattle.wast_implied.proofs.Instructions.{unchanged}
use Rattle.wast_implied.proofs.gathered.Implied.add_item.Goals as goal

pub returns-in-Table : goal.returns-in-Table
returns-in-Table c = rw (c.in-Table.is) (unchanged c.args.span (known c.args.self.now) (ref_mentions (ref_tree c.in-Table.field-0.elem)) (quiet_heap (ref_tree c.in-Table.field-0.elem).heap_type))

pub returns-in-Global : goal.returns-in-Global
returns-in-Global c = rw (c.in-Global.is) (unchanged c.args.span (known c.args.self.now) (val_mentions (val_tree c.in-Global.field-0.ty)) (quiet_val (val_tree c.in-Global.field-0.ty)))
