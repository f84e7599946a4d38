use Rattle.std.proofs.Common.{refl, [], ◌∷◌, codes}
use Rattle.wast_value_types.specs.Look.{this_group}
use Rattle.wast_signatures.proofs.signature.peek_sig.Goals as goal

pub returns : goal.returns
returns c = c.or_peek.ensures (this_group (codes "param") ∷ []) refl c.peek_group.ensures
