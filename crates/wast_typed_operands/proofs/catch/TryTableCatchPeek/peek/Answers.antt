use Rattle.std.proofs.Common.{refl, [], ◌∷◌}
use Rattle.std.specs.Prelude.{codes}
use Rattle.wast_signatures.specs.Look.{this_group}
use Rattle.wast_typed_operands.proofs.catch.TryTableCatchPeek.peek.Goals as goal

pub returns : goal.returns
returns c =
    let first = c.or_peek-found.ensures (this_group (codes "catch") ∷ []) refl c.peek_group-found.ensures in
    let second = c.or_peek-found-2.ensures (this_group (codes "catch") ∷ this_group (codes "catch_ref") ∷ []) refl first in
    c.or_peek.ensures (this_group (codes "catch") ∷ this_group (codes "catch_ref") ∷ this_group (codes "catch_all") ∷ []) refl second
