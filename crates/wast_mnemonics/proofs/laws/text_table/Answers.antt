use Rattle.wast_mnemonics.proofs.Entries.{text_entry_count, mnemonics_once, entries_by_mnemonic, table_whole, uncovered_whole, samples_found}
use Rattle.wast_mnemonics.proofs.laws.text_table.Goals as goal

pub returns-clause-entries : goal.returns-clause-entries
returns-clause-entries c = text_entry_count

pub returns-clause-once : goal.returns-clause-once
returns-clause-once c = mnemonics_once

pub returns-clause-by_mnemonic : goal.returns-clause-by_mnemonic
returns-clause-by_mnemonic c = entries_by_mnemonic

pub returns-clause-listed : goal.returns-clause-listed
returns-clause-listed c = table_whole

pub returns-clause-uncovered : goal.returns-clause-uncovered
returns-clause-uncovered c = uncovered_whole

pub returns-clause-samples : goal.returns-clause-samples
returns-clause-samples c = samples_found
