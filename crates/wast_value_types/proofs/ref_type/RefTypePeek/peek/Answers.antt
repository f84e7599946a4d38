use Rattle.std.proofs.Common.{[], ◌∷◌, refl}
use Rattle.std.specs.Prelude.{codes}
use Rattle.wast_words.specs.Look.{this_group}
use Rattle.wast_value_types.proofs.ref_type.RefTypePeek.peek.Goals as goal

pub returns : goal.returns
returns c = c.or_peek.ensures (this_group (codes "ref") ∷ []) refl c.peek_group.ensures
