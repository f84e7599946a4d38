use Rattle.wast_value_types.specs.ValueSyntax.{heap_words}
use Rattle.wast_words.proofs.WordLaws.{keyword_leads}
use Rattle.wast_value_types.proofs.heap_type.AbstractHeapTypePeek.leads.Goals as goal

pub returns : goal.returns
returns c = keyword_leads heap_words
