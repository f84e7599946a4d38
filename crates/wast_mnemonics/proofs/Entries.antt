-- The text's table, computed.
use Rattle.std.proofs.Common.{refl}
use Rattle.wasm_encoder_base.specs.Table.{table}
use Rattle.wasm_encoder_base.specs.Leb.{uleb, leb, digits}
use Rattle.wasm_encoder_base.specs.Uncovered.{uncovered}
use Rattle.wast_mnemonics.specs.TextTable.{text_table}
use Rattle.wast_mnemonics.specs.Laws.{TextEntryCount, MnemonicsOnce, EntriesByMnemonic, TableWhole, UncoveredWhole}
use Rattle.wast_mnemonics.specs.Samples.{SamplesFound}

pub text_entry_count : TextEntryCount
unfolding text_table table uncovered uleb leb digits
text_entry_count = refl

pub mnemonics_once : MnemonicsOnce
unfolding text_table table uncovered uleb leb digits
mnemonics_once = refl

pub entries_by_mnemonic : EntriesByMnemonic
unfolding text_table table uncovered uleb leb digits
entries_by_mnemonic = refl

pub table_whole : TableWhole
unfolding text_table table uncovered uleb leb digits
table_whole = refl

pub uncovered_whole : UncoveredWhole
unfolding text_table table uncovered uleb leb digits
uncovered_whole = refl

pub samples_found : SamplesFound
unfolding text_table table uncovered uleb leb digits
samples_found = refl
