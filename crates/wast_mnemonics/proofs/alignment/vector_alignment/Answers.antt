use Rattle.std.proofs.Common.{◌≡◌, inl, inr, sym, ap}
use Rattle.wasm_encoder_base.specs.Table.{table}
use Rattle.wasm_encoder_base.specs.Leb.{uleb, leb, digits}
use Rattle.wasm_encoder_base.specs.Uncovered.{uncovered}
use Rattle.wast_mnemonics.specs.TextTable.{text_table}
use Rattle.wast_mnemonics.specs.Words.{syntax_at, alignment_at}
use Rattle.wast_mnemonics.specs.declared.word.VectorMemoryWord.{VectorMemoryWord}
use Rattle.wast_mnemonics.specs.Mnemonics.{vector_memory_mnemonic}
use Rattle.wast_mnemonics.proofs.alignment.vector_alignment.Goals as goal

abbrev by : {op other : VectorMemoryWord} → op ≡ other → alignment_at (vector_memory_mnemonic other) ≡ alignment_at (vector_memory_mnemonic op)
by p = sym (ap (λ op. alignment_at (vector_memory_mnemonic op)) p)

pub returns-in-V128Load8Splat : goal.returns-in-V128Load8Splat
unfolding syntax_at text_table table uncovered uleb leb digits
returns-in-V128Load8Splat c = by c.in-V128Load8Splat.is

pub returns-in-V128Load16Splat : goal.returns-in-V128Load16Splat
unfolding syntax_at text_table table uncovered uleb leb digits
returns-in-V128Load16Splat c = by c.in-V128Load16Splat.is

pub returns-in-V128Load32Splat : goal.returns-in-V128Load32Splat
unfolding syntax_at text_table table uncovered uleb leb digits
returns-in-V128Load32Splat c = elim c.in-V128Load32Splat.is [ inl p ↦ by p | inr r ↦ by r ]

pub returns-in-V128Load8x8S : goal.returns-in-V128Load8x8S
unfolding syntax_at text_table table uncovered uleb leb digits
returns-in-V128Load8x8S c = elim c.in-V128Load8x8S.is [ inl p ↦ by p | inr r ↦ elim r [ inl p ↦ by p | inr r ↦ elim r [ inl p ↦ by p | inr r ↦ elim r [ inl p ↦ by p | inr r ↦ elim r [ inl p ↦ by p | inr r ↦ elim r [ inl p ↦ by p | inr r ↦ elim r [ inl p ↦ by p | inr r ↦ by r ] ] ] ] ] ] ]

pub returns-in-V128Load : goal.returns-in-V128Load
unfolding syntax_at text_table table uncovered uleb leb digits
returns-in-V128Load c = elim c.in-V128Load.is [ inl p ↦ by p | inr r ↦ by r ]
