use Rattle.std.proofs.Common.{◌≡◌, inl, inr, ap}
use Rattle.wasm_encoder_base.specs.Table.{table}
use Rattle.wasm_encoder_base.specs.Leb.{uleb, leb, digits}
use Rattle.wasm_encoder_base.specs.Uncovered.{uncovered}
use Rattle.wast_mnemonics.specs.TextTable.{text_table}
use Rattle.wast_mnemonics.specs.Words.{syntax_at}
use Rattle.wast_mnemonics.specs.declared.word.MemoryLaneWord.{MemoryLaneWord}
use Rattle.wast_mnemonics.specs.declared.word.Word.TheVariants as words
use Rattle.wast_mnemonics.specs.Words.{word_operands}
use Rattle.wast_mnemonics.proofs.word.MemoryLaneWord.natural_alignment.Goals as goal

abbrev by : {op other : MemoryLaneWord} → op ≡ other → word_operands (words.MemoryLane op) ≡ word_operands (words.MemoryLane other)
by p = ap (λ op. word_operands (words.MemoryLane op)) p

pub returns-in-V128Load8Lane : goal.returns-in-V128Load8Lane
unfolding syntax_at text_table table uncovered uleb leb digits
returns-in-V128Load8Lane c = elim c.in-V128Load8Lane.is [ inl p ↦ by p | inr r ↦ by r ]

pub returns-in-V128Load16Lane : goal.returns-in-V128Load16Lane
unfolding syntax_at text_table table uncovered uleb leb digits
returns-in-V128Load16Lane c = elim c.in-V128Load16Lane.is [ inl p ↦ by p | inr r ↦ by r ]

pub returns-in-V128Load32Lane : goal.returns-in-V128Load32Lane
unfolding syntax_at text_table table uncovered uleb leb digits
returns-in-V128Load32Lane c = elim c.in-V128Load32Lane.is [ inl p ↦ by p | inr r ↦ by r ]

pub returns-in-V128Load64Lane : goal.returns-in-V128Load64Lane
unfolding syntax_at text_table table uncovered uleb leb digits
returns-in-V128Load64Lane c = elim c.in-V128Load64Lane.is [ inl p ↦ by p | inr r ↦ by r ]
