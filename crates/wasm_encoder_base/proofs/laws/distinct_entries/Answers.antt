use Rattle.wasm_encoder_base.proofs.UniqueInstr.{table-entries, opcodes-distinct, opcodes-apart, mnemonics-distinct}
use Rattle.wasm_encoder_base.proofs.Entries.{doubles_listed, entries_distinct}
use Rattle.wasm_encoder_base.proofs.laws.distinct_entries.Goals as goal

pub returns : goal.returns
returns c = record { entries = table-entries; opcodes = opcodes-distinct; none_begins_another = opcodes-apart; mnemonics = mnemonics-distinct; doubles = doubles_listed; operands = entries_distinct }
