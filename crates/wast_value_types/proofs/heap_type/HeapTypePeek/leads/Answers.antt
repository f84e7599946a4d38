use Rattle.std.proofs.Common.{[]}
use Rattle.wast_words.specs.Tokens.{as_read}
use Rattle.wast_value_types.proofs.ValueLaws.{heap_type_leads}
use Rattle.wast_value_types.proofs.heap_type.HeapTypePeek.leads.Goals as goal

pub returns : goal.returns
returns c = heap_type_leads (as_read []) 0
