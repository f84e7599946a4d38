use Rattle.std.proofs.Common.{[], ◌∷◌, refl, codes}
use Rattle.wast_field_syntax.specs.Look.{this_group}
use Rattle.wast_table_fields.proofs.element.peek_element.Goals as goal

pub returns : goal.returns
returns c = c.or_begins.ensures (this_group (codes "item") ∷ []) refl c.peek.ensures
