use Rattle.std.proofs.Common.{refl}
use Rattle.wast_words.specs.WordSyntax.{keywords}
use Rattle.wast_value_types.specs.ValueSyntax.{number_words}
use Rattle.wast_value_types.proofs.val_type.ValTypePeek.peek.Goals as goal

pub returns : goal.returns
returns c = c.or_peek.ensures (keywords number_words) refl c.peek.ensures
