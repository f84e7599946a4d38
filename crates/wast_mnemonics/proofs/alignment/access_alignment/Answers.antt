use Rattle.std.proofs.Common.{◌≡◌, inl, inr, sym, ap}
use Rattle.wasm_encoder_base.specs.Table.{table}
use Rattle.wasm_encoder_base.specs.Leb.{uleb, leb, digits}
use Rattle.wasm_encoder_base.specs.Uncovered.{uncovered}
use Rattle.wast_mnemonics.specs.TextTable.{text_table}
use Rattle.wast_mnemonics.specs.Words.{syntax_at, alignment_at}
use Rattle.wasm_encoder_opcodes.specs.declared.access.AccessOp.{AccessOp}
use Rattle.wasm_encoder_opcodes.specs.Access.{access_mnemonic}
use Rattle.wast_mnemonics.proofs.alignment.access_alignment.Goals as goal

abbrev by : {op other : AccessOp} → op ≡ other → alignment_at (access_mnemonic other) ≡ alignment_at (access_mnemonic op)
by p = sym (ap (λ op. alignment_at (access_mnemonic op)) p)

pub returns-in-I32Load8S : goal.returns-in-I32Load8S
unfolding syntax_at text_table table uncovered uleb leb digits
returns-in-I32Load8S c = elim c.in-I32Load8S.is [ inl p ↦ by p | inr r ↦ elim r [ inl p ↦ by p | inr r ↦ elim r [ inl p ↦ by p | inr r ↦ elim r [ inl p ↦ by p | inr r ↦ elim r [ inl p ↦ by p | inr r ↦ by r ] ] ] ] ]

pub returns-in-I32Load16S : goal.returns-in-I32Load16S
unfolding syntax_at text_table table uncovered uleb leb digits
returns-in-I32Load16S c = elim c.in-I32Load16S.is [ inl p ↦ by p | inr r ↦ elim r [ inl p ↦ by p | inr r ↦ elim r [ inl p ↦ by p | inr r ↦ elim r [ inl p ↦ by p | inr r ↦ elim r [ inl p ↦ by p | inr r ↦ by r ] ] ] ] ]

pub returns-in-I32Load : goal.returns-in-I32Load
unfolding syntax_at text_table table uncovered uleb leb digits
returns-in-I32Load c = elim c.in-I32Load.is [ inl p ↦ by p | inr r ↦ elim r [ inl p ↦ by p | inr r ↦ elim r [ inl p ↦ by p | inr r ↦ elim r [ inl p ↦ by p | inr r ↦ elim r [ inl p ↦ by p | inr r ↦ elim r [ inl p ↦ by p | inr r ↦ by r ] ] ] ] ] ]

pub returns-in-I64Load : goal.returns-in-I64Load
unfolding syntax_at text_table table uncovered uleb leb digits
returns-in-I64Load c = elim c.in-I64Load.is [ inl p ↦ by p | inr r ↦ elim r [ inl p ↦ by p | inr r ↦ elim r [ inl p ↦ by p | inr r ↦ by r ] ] ]
