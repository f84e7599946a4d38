use Rattle.wast_value_types.specs.ValueSyntax.{heap_words}
use Rattle.wast_words.proofs.WordLaws.{keyword_laws}
use Rattle.wast_value_types.proofs.heap_type.AbstractHeapTypeMeaning.lawful.Goals as goal

pub returns : goal.returns
returns c = keyword_laws heap_words
