-- What the table says stands after each word, and so what becomes of its operands.
use Rattle.std.proofs.Common.{◌≡◌, refl}
use Rattle.wasm_encoder_base.specs.OperandSyntax as syntax
use Rattle.wasm_encoder_base.specs.OperandSyntax.{Space, Labels, Locals, Functions, Types, Tables, Memories, Globals, Tags, Datas, Elems, Fields}
use Rattle.wasm_encoder_base.specs.Table.{table}
use Rattle.wasm_encoder_base.specs.Leb.{uleb, leb, digits}
use Rattle.wasm_encoder_base.specs.Uncovered.{uncovered}
use Rattle.wast_mnemonics.specs.declared.word.Word.TheVariants as words
use Rattle.wast_mnemonics.specs.declared.word.IndexWord.{IndexWord}
use Rattle.wast_mnemonics.specs.declared.word.IndexWord.TheVariants as index_words
use Rattle.wast_mnemonics.specs.declared.word.IndicesWord.{IndicesWord}
use Rattle.wast_mnemonics.specs.declared.word.IndicesWord.TheVariants as indices_words
use Rattle.wast_mnemonics.specs.declared.word.OptionalIndexWord.{OptionalIndexWord}
use Rattle.wast_mnemonics.specs.declared.word.OptionalIndexWord.TheVariants as optional_index_words
use Rattle.wast_mnemonics.specs.declared.word.CopyWord.{CopyWord}
use Rattle.wast_mnemonics.specs.declared.word.CopyWord.TheVariants as copy_words
use Rattle.wast_mnemonics.specs.declared.word.InitWord.{InitWord}
use Rattle.wast_mnemonics.specs.declared.word.InitWord.TheVariants as init_words
use Rattle.wast_mnemonics.specs.declared.proposal.ProposalWord.TheVariants as proposal_words
use Rattle.wast_mnemonics.specs.declared.proposal.IndexProposal.{IndexProposal}
use Rattle.wast_mnemonics.specs.declared.proposal.IndexProposal.TheVariants as index_proposals
use Rattle.wast_mnemonics.specs.declared.proposal.IndicesProposal.{IndicesProposal}
use Rattle.wast_mnemonics.specs.declared.proposal.IndicesProposal.TheVariants as indices_proposals
use Rattle.wast_mnemonics.specs.declared.proposal.OrderedIndexProposal.{OrderedIndexProposal}
use Rattle.wast_mnemonics.specs.declared.proposal.OrderedIndexProposal.TheVariants as ordered_index_proposals
use Rattle.wast_mnemonics.specs.declared.proposal.OrderedOptionalIndexProposal.{OrderedOptionalIndexProposal}
use Rattle.wast_mnemonics.specs.declared.proposal.OrderedOptionalIndexProposal.TheVariants as ordered_optional_index_proposals
use Rattle.wast_mnemonics.specs.declared.proposal.OrderedIndicesProposal.{OrderedIndicesProposal}
use Rattle.wast_mnemonics.specs.declared.proposal.OrderedIndicesProposal.TheVariants as ordered_indices_proposals
use Rattle.wast_changed.specs.Rows.{row_of}

abbrev pub index_space : IndexWord → Space
index_space index_words.Catch = Tags
index_space index_words.Throw = Tags
index_space index_words.Rethrow = Labels
index_space index_words.Br = Labels
index_space index_words.BrIf = Labels
index_space index_words.Call = Functions
index_space index_words.ReturnCall = Functions
index_space index_words.CallRef = Types
index_space index_words.ReturnCallRef = Types
index_space index_words.Delegate = Labels
index_space index_words.LocalGet = Locals
index_space index_words.LocalSet = Locals
index_space index_words.LocalTee = Locals
index_space index_words.GlobalGet = Globals
index_space index_words.GlobalSet = Globals
index_space index_words.RefFunc = Functions
index_space index_words.BrOnNull = Labels
index_space index_words.BrOnNonNull = Labels
index_space index_words.StructNew = Types
index_space index_words.StructNewDefault = Types
index_space index_words.ArrayNew = Types
index_space index_words.ArrayNewDefault = Types
index_space index_words.ArrayGet = Types
index_space index_words.ArrayGetS = Types
index_space index_words.ArrayGetU = Types
index_space index_words.ArraySet = Types
index_space index_words.ArrayFill = Types
index_space index_words.DataDrop = Datas
index_space index_words.ElemDrop = Elems

abbrev pub second_of : IndicesWord → Space
second_of indices_words.StructGet = Fields
second_of indices_words.StructGetS = Fields
second_of indices_words.StructGetU = Fields
second_of indices_words.StructSet = Fields
second_of indices_words.ArrayNewData = Datas
second_of indices_words.ArrayNewElem = Elems
second_of indices_words.ArrayCopy = Types
second_of indices_words.ArrayInitData = Datas
second_of indices_words.ArrayInitElem = Elems

abbrev pub optional_space : OptionalIndexWord → Space
optional_space optional_index_words.TableGet = Tables
optional_space optional_index_words.TableSet = Tables
optional_space optional_index_words.MemorySize = Memories
optional_space optional_index_words.MemoryGrow = Memories
optional_space optional_index_words.MemoryFill = Memories
optional_space optional_index_words.TableGrow = Tables
optional_space optional_index_words.TableSize = Tables
optional_space optional_index_words.TableFill = Tables

abbrev pub copy_space : CopyWord → Space
copy_space copy_words.MemoryCopy = Memories
copy_space copy_words.TableCopy = Tables

abbrev pub init_first : InitWord → Space
init_first init_words.MemoryInit = Memories
init_first init_words.TableInit = Tables

abbrev pub init_second : InitWord → Space
init_second init_words.MemoryInit = Datas
init_second init_words.TableInit = Elems

abbrev pub index_proposal_space : IndexProposal → Space
index_proposal_space index_proposals.ContNew = Types
index_proposal_space index_proposals.Suspend = Tags
index_proposal_space index_proposals.StructNewDesc = Types
index_proposal_space index_proposals.StructNewDefaultDesc = Types
index_proposal_space index_proposals.RefGetDesc = Types

abbrev pub indices_proposal_second : IndicesProposal → Space
indices_proposal_second indices_proposals.ContBind = Types
indices_proposal_second indices_proposals.Switch = Tags

abbrev pub ordered_index_space : OrderedIndexProposal → Space
ordered_index_space ordered_index_proposals.GlobalAtomicGet = Globals
ordered_index_space ordered_index_proposals.GlobalAtomicSet = Globals
ordered_index_space ordered_index_proposals.GlobalAtomicRmwAdd = Globals
ordered_index_space ordered_index_proposals.GlobalAtomicRmwSub = Globals
ordered_index_space ordered_index_proposals.GlobalAtomicRmwAnd = Globals
ordered_index_space ordered_index_proposals.GlobalAtomicRmwOr = Globals
ordered_index_space ordered_index_proposals.GlobalAtomicRmwXor = Globals
ordered_index_space ordered_index_proposals.GlobalAtomicRmwXchg = Globals
ordered_index_space ordered_index_proposals.GlobalAtomicRmwCmpxchg = Globals
ordered_index_space ordered_index_proposals.ArrayAtomicGet = Types
ordered_index_space ordered_index_proposals.ArrayAtomicGetS = Types
ordered_index_space ordered_index_proposals.ArrayAtomicGetU = Types
ordered_index_space ordered_index_proposals.ArrayAtomicSet = Types
ordered_index_space ordered_index_proposals.ArrayAtomicRmwAdd = Types
ordered_index_space ordered_index_proposals.ArrayAtomicRmwSub = Types
ordered_index_space ordered_index_proposals.ArrayAtomicRmwAnd = Types
ordered_index_space ordered_index_proposals.ArrayAtomicRmwOr = Types
ordered_index_space ordered_index_proposals.ArrayAtomicRmwXor = Types
ordered_index_space ordered_index_proposals.ArrayAtomicRmwXchg = Types
ordered_index_space ordered_index_proposals.ArrayAtomicRmwCmpxchg = Types

pub index_row : (w : IndexWord) → row_of (words.Index w) ≡ syntax.Index (index_space w)
unfolding row_of table uncovered uleb leb digits
index_row index_words.Catch = refl
index_row index_words.Throw = refl
index_row index_words.Rethrow = refl
index_row index_words.Br = refl
index_row index_words.BrIf = refl
index_row index_words.Call = refl
index_row index_words.ReturnCall = refl
index_row index_words.CallRef = refl
index_row index_words.ReturnCallRef = refl
index_row index_words.Delegate = refl
index_row index_words.LocalGet = refl
index_row index_words.LocalSet = refl
index_row index_words.LocalTee = refl
index_row index_words.GlobalGet = refl
index_row index_words.GlobalSet = refl
index_row index_words.RefFunc = refl
index_row index_words.BrOnNull = refl
index_row index_words.BrOnNonNull = refl
index_row index_words.StructNew = refl
index_row index_words.StructNewDefault = refl
index_row index_words.ArrayNew = refl
index_row index_words.ArrayNewDefault = refl
index_row index_words.ArrayGet = refl
index_row index_words.ArrayGetS = refl
index_row index_words.ArrayGetU = refl
index_row index_words.ArraySet = refl
index_row index_words.ArrayFill = refl
index_row index_words.DataDrop = refl
index_row index_words.ElemDrop = refl

pub indices_row : (w : IndicesWord) → row_of (words.Indices w) ≡ syntax.Indices Types (second_of w)
unfolding row_of table uncovered uleb leb digits
indices_row indices_words.StructGet = refl
indices_row indices_words.StructGetS = refl
indices_row indices_words.StructGetU = refl
indices_row indices_words.StructSet = refl
indices_row indices_words.ArrayNewData = refl
indices_row indices_words.ArrayNewElem = refl
indices_row indices_words.ArrayCopy = refl
indices_row indices_words.ArrayInitData = refl
indices_row indices_words.ArrayInitElem = refl

pub optional_row : (w : OptionalIndexWord) → row_of (words.OptionalIndex w) ≡ syntax.OptionalIndex (optional_space w)
unfolding row_of table uncovered uleb leb digits
optional_row optional_index_words.TableGet = refl
optional_row optional_index_words.TableSet = refl
optional_row optional_index_words.MemorySize = refl
optional_row optional_index_words.MemoryGrow = refl
optional_row optional_index_words.MemoryFill = refl
optional_row optional_index_words.TableGrow = refl
optional_row optional_index_words.TableSize = refl
optional_row optional_index_words.TableFill = refl

pub copy_row : (w : CopyWord) → row_of (words.Copy w) ≡ syntax.Copy (copy_space w)
unfolding row_of table uncovered uleb leb digits
copy_row copy_words.MemoryCopy = refl
copy_row copy_words.TableCopy = refl

pub init_row : (w : InitWord) → row_of (words.Init w) ≡ syntax.Init (init_first w) (init_second w)
unfolding row_of table uncovered uleb leb digits
init_row init_words.MemoryInit = refl
init_row init_words.TableInit = refl

pub fixed_row : row_of words.ArrayNewFixed ≡ syntax.IndexCount Types
unfolding row_of table uncovered uleb leb digits
fixed_row = refl

pub index_proposal_row : (w : IndexProposal) → row_of (words.Proposal (proposal_words.Index w)) ≡ syntax.Index (index_proposal_space w)
unfolding row_of table uncovered uleb leb digits
index_proposal_row index_proposals.ContNew = refl
index_proposal_row index_proposals.Suspend = refl
index_proposal_row index_proposals.StructNewDesc = refl
index_proposal_row index_proposals.StructNewDefaultDesc = refl
index_proposal_row index_proposals.RefGetDesc = refl

pub indices_proposal_row : (w : IndicesProposal) → row_of (words.Proposal (proposal_words.Indices w)) ≡ syntax.Indices Types (indices_proposal_second w)
unfolding row_of table uncovered uleb leb digits
indices_proposal_row indices_proposals.ContBind = refl
indices_proposal_row indices_proposals.Switch = refl

pub discard_row : row_of (words.Proposal proposal_words.MemoryDiscard) ≡ syntax.OptionalIndex Memories
unfolding row_of table uncovered uleb leb digits
discard_row = refl

pub ordered_index_row : (w : OrderedIndexProposal) → row_of (words.Proposal (proposal_words.OrderedIndex w)) ≡ syntax.Index (ordered_index_space w)
unfolding row_of table uncovered uleb leb digits
ordered_index_row ordered_index_proposals.GlobalAtomicGet = refl
ordered_index_row ordered_index_proposals.GlobalAtomicSet = refl
ordered_index_row ordered_index_proposals.GlobalAtomicRmwAdd = refl
ordered_index_row ordered_index_proposals.GlobalAtomicRmwSub = refl
ordered_index_row ordered_index_proposals.GlobalAtomicRmwAnd = refl
ordered_index_row ordered_index_proposals.GlobalAtomicRmwOr = refl
ordered_index_row ordered_index_proposals.GlobalAtomicRmwXor = refl
ordered_index_row ordered_index_proposals.GlobalAtomicRmwXchg = refl
ordered_index_row ordered_index_proposals.GlobalAtomicRmwCmpxchg = refl
ordered_index_row ordered_index_proposals.ArrayAtomicGet = refl
ordered_index_row ordered_index_proposals.ArrayAtomicGetS = refl
ordered_index_row ordered_index_proposals.ArrayAtomicGetU = refl
ordered_index_row ordered_index_proposals.ArrayAtomicSet = refl
ordered_index_row ordered_index_proposals.ArrayAtomicRmwAdd = refl
ordered_index_row ordered_index_proposals.ArrayAtomicRmwSub = refl
ordered_index_row ordered_index_proposals.ArrayAtomicRmwAnd = refl
ordered_index_row ordered_index_proposals.ArrayAtomicRmwOr = refl
ordered_index_row ordered_index_proposals.ArrayAtomicRmwXor = refl
ordered_index_row ordered_index_proposals.ArrayAtomicRmwXchg = refl
ordered_index_row ordered_index_proposals.ArrayAtomicRmwCmpxchg = refl

pub ordered_optional_row : (w : OrderedOptionalIndexProposal) → row_of (words.Proposal (proposal_words.OrderedOptionalIndex w)) ≡ syntax.OptionalIndex Tables
unfolding row_of table uncovered uleb leb digits
ordered_optional_row ordered_optional_index_proposals.TableAtomicGet = refl
ordered_optional_row ordered_optional_index_proposals.TableAtomicSet = refl
ordered_optional_row ordered_optional_index_proposals.TableAtomicRmwXchg = refl
ordered_optional_row ordered_optional_index_proposals.TableAtomicRmwCmpxchg = refl

pub ordered_indices_row : (w : OrderedIndicesProposal) → row_of (words.Proposal (proposal_words.OrderedIndices w)) ≡ syntax.Indices Types Fields
unfolding row_of table uncovered uleb leb digits
ordered_indices_row ordered_indices_proposals.StructAtomicGet = refl
ordered_indices_row ordered_indices_proposals.StructAtomicGetS = refl
ordered_indices_row ordered_indices_proposals.StructAtomicGetU = refl
ordered_indices_row ordered_indices_proposals.StructAtomicSet = refl
ordered_indices_row ordered_indices_proposals.StructAtomicRmwAdd = refl
ordered_indices_row ordered_indices_proposals.StructAtomicRmwSub = refl
ordered_indices_row ordered_indices_proposals.StructAtomicRmwAnd = refl
ordered_indices_row ordered_indices_proposals.StructAtomicRmwOr = refl
ordered_indices_row ordered_indices_proposals.StructAtomicRmwXor = refl
ordered_indices_row ordered_indices_proposals.StructAtomicRmwXchg = refl
ordered_indices_row ordered_indices_proposals.StructAtomicRmwCmpxchg = refl
