-- The entry of each word. What stands after it is by its variant; the space of an index and the natural alignment are the table's.
use Rattle.std.specs.Prelude.{ℕ, List, Option, Some, None}
use Rattle.wasm_encoder_base.specs.Table.{OperandSyntax, table, entries_of, Space, Labels, Types, Memories}
use Rattle.wasm_encoder_base.specs.OperandSyntax as syntax
use Rattle.wast_grammar.specs.Spelling.{find_by}
use Rattle.wast_mnemonics.specs.TextTable.{TextOperands, Listed, Ordered, SelectTypes, AnyRef, Resume, ResumeThrow, TextEntry, text_entry, text_table}
use Rattle.wast_mnemonics.specs.Mnemonics.{word_mnemonic, index_mnemonic, indices_mnemonic, optional_index_mnemonic, copy_mnemonic, init_mnemonic, memory_mnemonic, memory_lane_mnemonic}
use Rattle.wast_mnemonics.specs.ProposalMnemonics.{index_proposal_mnemonic, indices_proposal_mnemonic, ordered_index_proposal_mnemonic, ordered_optional_index_proposal_mnemonic, ordered_indices_proposal_mnemonic}
use Rattle.wast_mnemonics.specs.declared.word.Word.{Word}
use Rattle.wast_mnemonics.specs.declared.word.Word.TheVariants as words
use Rattle.wast_mnemonics.specs.declared.proposal.ProposalWord.{ProposalWord}
use Rattle.wast_mnemonics.specs.declared.proposal.ProposalWord.TheVariants as proposals

-- what the list says of a mnemonic, apart from an ordering
abbrev syntax_in : Option TextEntry → OperandSyntax
syntax_in None = syntax.Plain
syntax_in (Some t) = of_operands t.operands
  where
    of_operands : TextOperands → OperandSyntax
    of_operands (Listed o) = o
    of_operands (Ordered o) = o
    of_operands _ = syntax.Plain

unfoldable pub syntax_at : List ℕ → OperandSyntax
syntax_at w = syntax_in (find_by (λ t. t.mnemonic) w text_table)

-- what its first index names, and its second; the natural alignment in bytes
abbrev pub first_space : OperandSyntax → Space
first_space (syntax.Index s) = s
first_space (syntax.Indices s t) = s
first_space (syntax.IndexCount s) = s
first_space (syntax.OptionalIndex s) = s
first_space (syntax.Copy s) = s
first_space (syntax.Init s t) = s
first_space _ = Labels

abbrev pub second_space : OperandSyntax → Space
second_space (syntax.Indices s t) = t
second_space (syntax.Copy s) = s
second_space (syntax.Init s t) = t
second_space _ = Labels

abbrev alignment : OperandSyntax → ℕ
alignment (syntax.Mem n) = n
alignment (syntax.MemLane n) = n
alignment _ = 0

abbrev pub alignment_at : List ℕ → ℕ
alignment_at w = alignment (syntax_at w)

abbrev pub index_at : List ℕ → OperandSyntax
index_at w = syntax.Index (first_space (syntax_at w))

abbrev pub indices_at : List ℕ → OperandSyntax
indices_at w = syntax.Indices (first_space (syntax_at w)) (second_space (syntax_at w))

abbrev pub optional_index_at : List ℕ → OperandSyntax
optional_index_at w = syntax.OptionalIndex (first_space (syntax_at w))

abbrev pub copy_at : List ℕ → OperandSyntax
copy_at w = syntax.Copy (first_space (syntax_at w))

abbrev pub init_at : List ℕ → OperandSyntax
init_at w = syntax.Init (first_space (syntax_at w)) (second_space (syntax_at w))

-- what stands after a word
abbrev pub proposal_operands : ProposalWord → TextOperands
proposal_operands (proposals.Plain word) = Listed syntax.Plain
proposal_operands (proposals.Index word) = Listed (index_at (index_proposal_mnemonic word))
proposal_operands (proposals.Indices word) = Listed (indices_at (indices_proposal_mnemonic word))
proposal_operands proposals.MemoryDiscard = Listed (syntax.OptionalIndex Memories)
proposal_operands proposals.RefCastDescEq = AnyRef
proposal_operands (proposals.Cast word) = Listed syntax.Cast
proposal_operands (proposals.Resume word) = Resume
proposal_operands proposals.ResumeThrow = ResumeThrow
proposal_operands (proposals.OrderedIndex word) = Ordered (index_at (ordered_index_proposal_mnemonic word))
proposal_operands (proposals.OrderedOptionalIndex word) = Ordered (optional_index_at (ordered_optional_index_proposal_mnemonic word))
proposal_operands (proposals.OrderedIndices word) = Ordered (indices_at (ordered_indices_proposal_mnemonic word))

abbrev pub word_operands : Word → TextOperands
word_operands (words.Plain word) = Listed syntax.Plain
word_operands (words.Name word) = Listed syntax.Name
word_operands (words.Block word) = Listed syntax.Block
word_operands words.TryTable = Listed syntax.TryTable
word_operands (words.Index word) = Listed (index_at (index_mnemonic word))
word_operands (words.Indices word) = Listed (indices_at (indices_mnemonic word))
word_operands words.ArrayNewFixed = Listed (syntax.IndexCount Types)
word_operands words.BrTable = Listed syntax.BrTable
word_operands (words.Indirect word) = Listed syntax.Indirect
word_operands (words.OptionalIndex word) = Listed (optional_index_at (optional_index_mnemonic word))
word_operands (words.Copy word) = Listed (copy_at (copy_mnemonic word))
word_operands (words.Init word) = Listed (init_at (init_mnemonic word))
word_operands words.RefNull = Listed syntax.Heap
word_operands (words.Ref word) = AnyRef
word_operands (words.Cast word) = Listed syntax.Cast
word_operands words.I32Const = Listed syntax.I32
word_operands words.I64Const = Listed syntax.I64
word_operands words.F32Const = Listed syntax.F32
word_operands words.F64Const = Listed syntax.F64
word_operands words.V128Const = Listed syntax.V128
word_operands words.Select = SelectTypes
word_operands (words.Lane word) = Listed syntax.Lane
word_operands words.I8x16Shuffle = Listed syntax.Shuffle
word_operands (words.Memory word) = Listed (syntax.Mem (alignment_at (memory_mnemonic word)))
word_operands (words.MemoryLane word) = Listed (syntax.MemLane (alignment_at (memory_lane_mnemonic word)))
word_operands words.AtomicFence = Listed syntax.Fence
word_operands (words.Proposal word) = proposal_operands word

-- the entry of a word in the text's table
abbrev pub entry_of : Word → TextEntry
entry_of w = text_entry (word_mnemonic w) (word_operands w) (entries_of (word_mnemonic w) table)
