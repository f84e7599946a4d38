use Rattle.std.proofs.Common.{refl}
use Rattle.wast_words.specs.Look.{join, index_starts}
use Rattle.wast_words.specs.WordSyntax.{keywords}
use Rattle.wast_value_types.specs.ValueSyntax.{heap_words}
use Rattle.wast_words.specs.Look.{this_group}
use Rattle.std.proofs.Common.{[], ◌∷◌}
use Rattle.std.specs.Prelude.{codes}
use Rattle.wast_value_types.proofs.heap_type.HeapTypePeek.peek.Goals as goal

pub returns : goal.returns
returns c =
    let named = c.or_peek-found.ensures index_starts refl c.peek-found.ensures in
    let exact = c.or_peek-found-2.ensures (join index_starts (keywords heap_words)) refl named in
    c.or_peek.ensures (join (join index_starts (keywords heap_words)) (this_group (codes "exact") ∷ [])) refl exact
