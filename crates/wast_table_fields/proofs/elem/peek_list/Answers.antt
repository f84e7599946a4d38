use Rattle.std.proofs.Common.{[], ◌∷◌, refl, codes}
use Rattle.wast_field_syntax.specs.Look.{this_word}
use Rattle.wast_table_fields.proofs.elem.peek_list.Goals as goal

pub returns : goal.returns
returns c = c.or_begins.ensures (this_word (codes "func") ∷ []) refl c.peek.ensures
