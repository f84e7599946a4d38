use Rattle.std.proofs.Common.{[], ◌∷◌, refl}
use Rattle.wast_parser.specs.Look.{this_group}
use Rattle.wast_field_syntax.proofs.segment.UseOfPeek.peek.Goals as goal

pub returns : goal.returns
returns g c = c.or_peek.ensures (this_group g.N.KeywordName.word ∷ []) refl c.peek.ensures
