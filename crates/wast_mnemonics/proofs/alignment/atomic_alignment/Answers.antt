use Rattle.std.proofs.Common.{◌≡◌, inl, inr, sym, ap}
use Rattle.wasm_encoder_base.specs.Table.{table}
use Rattle.wasm_encoder_base.specs.Leb.{uleb, leb, digits}
use Rattle.wasm_encoder_base.specs.Uncovered.{uncovered}
use Rattle.wast_mnemonics.specs.TextTable.{text_table}
use Rattle.wast_mnemonics.specs.Words.{syntax_at, alignment_at}
use Rattle.wasm_encoder_opcodes.specs.declared.atomic.AtomicOp.{AtomicOp}
use Rattle.wasm_encoder_opcodes.specs.Atomic.{atomic_mnemonic}
use Rattle.wast_mnemonics.proofs.alignment.atomic_alignment.Goals as goal

abbrev by : {op other : AtomicOp} → op ≡ other → alignment_at (atomic_mnemonic other) ≡ alignment_at (atomic_mnemonic op)
by p = sym (ap (λ op. alignment_at (atomic_mnemonic op)) p)

pub returns-in-I32AtomicLoad8U : goal.returns-in-I32AtomicLoad8U
unfolding syntax_at text_table table uncovered uleb leb digits
returns-in-I32AtomicLoad8U c = elim c.in-I32AtomicLoad8U.is [ inl p ↦ by p | inr r ↦ elim r [ inl p ↦ by p | inr r ↦ elim r [ inl p ↦ by p | inr r ↦ by r ] ] ]

pub returns-in-I32AtomicLoad16U : goal.returns-in-I32AtomicLoad16U
unfolding syntax_at text_table table uncovered uleb leb digits
returns-in-I32AtomicLoad16U c = elim c.in-I32AtomicLoad16U.is [ inl p ↦ by p | inr r ↦ elim r [ inl p ↦ by p | inr r ↦ elim r [ inl p ↦ by p | inr r ↦ by r ] ] ]

pub returns-in-MemoryAtomicNotify : goal.returns-in-MemoryAtomicNotify
unfolding syntax_at text_table table uncovered uleb leb digits
returns-in-MemoryAtomicNotify c = elim c.in-MemoryAtomicNotify.is [ inl p ↦ by p | inr r ↦ elim r [ inl p ↦ by p | inr r ↦ elim r [ inl p ↦ by p | inr r ↦ elim r [ inl p ↦ by p | inr r ↦ elim r [ inl p ↦ by p | inr r ↦ by r ] ] ] ] ]

pub returns-in-MemoryAtomicWait64 : goal.returns-in-MemoryAtomicWait64
unfolding syntax_at text_table table uncovered uleb leb digits
returns-in-MemoryAtomicWait64 c = elim c.in-MemoryAtomicWait64.is [ inl p ↦ by p | inr r ↦ elim r [ inl p ↦ by p | inr r ↦ by r ] ]
