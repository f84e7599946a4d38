use Rattle.std.proofs.Common.{refl}
use Rattle.wast_words.specs.Look.{join}
use Rattle.wast_words.specs.WordSyntax.{keywords}
use Rattle.wast_value_types.specs.ValueSyntax.{packed_words, mut_starts}
use Rattle.wast_value_types.proofs.storage_type.FieldTypePeek.peek.Goals as goal

pub returns : goal.returns
returns c = c.or_peek.ensures (join mut_starts (keywords packed_words)) refl (c.or_peek-found.ensures mut_starts refl c.peek-found.ensures)
