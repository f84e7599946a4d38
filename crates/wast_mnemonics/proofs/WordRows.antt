-- Each word has a row: its mnemonic is found here.
use Rattle.std.proofs.Common.{ℕ, List, ◌++◌, ◌-◌, replicate, length, take, ◌≡◌, Some, refl}
use Rattle.wast_grammar.specs.Spelling.{find_by}
use Rattle.wast_mnemonics.specs.Mnemonics.{word_mnemonic}
use Rattle.wast_mnemonics.specs.Rows.{Row}
use Rattle.wast_mnemonics.specs.declared.table.TheConstants.{LONGEST, WORDS}
use Rattle.wast_mnemonics.specs.declared.word.Word.{Word}
use Rattle.wast_mnemonics.specs.declared.word.Word.TheVariants as words
use Rattle.wast_mnemonics.specs.declared.word.PlainWord.TheVariants as plain_words
use Rattle.wast_mnemonics.specs.declared.word.MemoryWord.TheVariants as memory_words
use Rattle.wast_mnemonics.specs.declared.proposal.ProposalWord.TheVariants as proposal_words
use Rattle.wasm_encoder_opcodes.specs.declared.compare.CompareOp.{CompareOp}
use Rattle.wasm_encoder_opcodes.specs.declared.compare.CompareOp.TheVariants as compare_ops
use Rattle.wasm_encoder_opcodes.specs.declared.numeric.NumericOp.{NumericOp}
use Rattle.wasm_encoder_opcodes.specs.declared.numeric.NumericOp.TheVariants as numeric_ops
use Rattle.wasm_encoder_opcodes.specs.declared.convert.ConvertOp.{ConvertOp}
use Rattle.wasm_encoder_opcodes.specs.declared.convert.ConvertOp.TheVariants as convert_ops
use Rattle.wasm_encoder_opcodes.specs.declared.vector.VectorOp.{VectorOp}
use Rattle.wasm_encoder_opcodes.specs.declared.vector.VectorOp.TheVariants as vector_ops
use Rattle.wasm_encoder_opcodes.specs.declared.vector_narrow.VectorNarrowOp.{VectorNarrowOp}
use Rattle.wasm_encoder_opcodes.specs.declared.vector_narrow.VectorNarrowOp.TheVariants as vector_narrow_ops
use Rattle.wasm_encoder_opcodes.specs.declared.vector_wide.VectorWideOp.{VectorWideOp}
use Rattle.wasm_encoder_opcodes.specs.declared.vector_wide.VectorWideOp.TheVariants as vector_wide_ops
use Rattle.wasm_encoder_opcodes.specs.declared.vector_float.VectorFloatOp.{VectorFloatOp}
use Rattle.wasm_encoder_opcodes.specs.declared.vector_float.VectorFloatOp.TheVariants as vector_float_ops
use Rattle.wasm_encoder_opcodes.specs.declared.access.AccessOp.{AccessOp}
use Rattle.wasm_encoder_opcodes.specs.declared.access.AccessOp.TheVariants as access_ops
use Rattle.wasm_encoder_opcodes.specs.declared.atomic.AtomicOp.{AtomicOp}
use Rattle.wasm_encoder_opcodes.specs.declared.atomic.AtomicOp.TheVariants as atomic_ops
use Rattle.wasm_encoder_opcodes.specs.declared.atomic_rmw.AtomicRmwOp.{AtomicRmwOp}
use Rattle.wasm_encoder_opcodes.specs.declared.atomic_rmw.AtomicRmwOp.TheVariants as atomic_rmw_ops
use Rattle.wast_mnemonics.specs.declared.word.PlainWord.{PlainWord}
use Rattle.wast_mnemonics.specs.declared.word.NameWord.{NameWord}
use Rattle.wast_mnemonics.specs.declared.word.NameWord.TheVariants as name_words
use Rattle.wast_mnemonics.specs.declared.word.BlockWord.{BlockWord}
use Rattle.wast_mnemonics.specs.declared.word.BlockWord.TheVariants as block_words
use Rattle.wast_mnemonics.specs.declared.word.IndexWord.{IndexWord}
use Rattle.wast_mnemonics.specs.declared.word.IndexWord.TheVariants as index_words
use Rattle.wast_mnemonics.specs.declared.word.IndicesWord.{IndicesWord}
use Rattle.wast_mnemonics.specs.declared.word.IndicesWord.TheVariants as indices_words
use Rattle.wast_mnemonics.specs.declared.word.IndirectWord.{IndirectWord}
use Rattle.wast_mnemonics.specs.declared.word.IndirectWord.TheVariants as indirect_words
use Rattle.wast_mnemonics.specs.declared.word.OptionalIndexWord.{OptionalIndexWord}
use Rattle.wast_mnemonics.specs.declared.word.OptionalIndexWord.TheVariants as optional_index_words
use Rattle.wast_mnemonics.specs.declared.word.CopyWord.{CopyWord}
use Rattle.wast_mnemonics.specs.declared.word.CopyWord.TheVariants as copy_words
use Rattle.wast_mnemonics.specs.declared.word.InitWord.{InitWord}
use Rattle.wast_mnemonics.specs.declared.word.InitWord.TheVariants as init_words
use Rattle.wast_mnemonics.specs.declared.word.RefWord.{RefWord}
use Rattle.wast_mnemonics.specs.declared.word.RefWord.TheVariants as ref_words
use Rattle.wast_mnemonics.specs.declared.word.CastWord.{CastWord}
use Rattle.wast_mnemonics.specs.declared.word.CastWord.TheVariants as cast_words
use Rattle.wast_mnemonics.specs.declared.word.LaneWord.{LaneWord}
use Rattle.wast_mnemonics.specs.declared.word.LaneWord.TheVariants as lane_words
use Rattle.wast_mnemonics.specs.declared.word.VectorMemoryWord.{VectorMemoryWord}
use Rattle.wast_mnemonics.specs.declared.word.VectorMemoryWord.TheVariants as vector_memory_words
use Rattle.wast_mnemonics.specs.declared.word.MemoryLaneWord.{MemoryLaneWord}
use Rattle.wast_mnemonics.specs.declared.word.MemoryLaneWord.TheVariants as memory_lane_words
use Rattle.wast_mnemonics.specs.declared.proposal.PlainProposal.{PlainProposal}
use Rattle.wast_mnemonics.specs.declared.proposal.PlainProposal.TheVariants as plain_proposals
use Rattle.wast_mnemonics.specs.declared.proposal.IndexProposal.{IndexProposal}
use Rattle.wast_mnemonics.specs.declared.proposal.IndexProposal.TheVariants as index_proposals
use Rattle.wast_mnemonics.specs.declared.proposal.IndicesProposal.{IndicesProposal}
use Rattle.wast_mnemonics.specs.declared.proposal.IndicesProposal.TheVariants as indices_proposals
use Rattle.wast_mnemonics.specs.declared.proposal.CastProposal.{CastProposal}
use Rattle.wast_mnemonics.specs.declared.proposal.CastProposal.TheVariants as cast_proposals
use Rattle.wast_mnemonics.specs.declared.proposal.ResumeProposal.{ResumeProposal}
use Rattle.wast_mnemonics.specs.declared.proposal.ResumeProposal.TheVariants as resume_proposals
use Rattle.wast_mnemonics.specs.declared.proposal.OrderedIndexProposal.{OrderedIndexProposal}
use Rattle.wast_mnemonics.specs.declared.proposal.OrderedIndexProposal.TheVariants as ordered_index_proposals
use Rattle.wast_mnemonics.specs.declared.proposal.OrderedOptionalIndexProposal.{OrderedOptionalIndexProposal}
use Rattle.wast_mnemonics.specs.declared.proposal.OrderedOptionalIndexProposal.TheVariants as ordered_optional_index_proposals
use Rattle.wast_mnemonics.specs.declared.proposal.OrderedIndicesProposal.{OrderedIndicesProposal}
use Rattle.wast_mnemonics.specs.declared.proposal.OrderedIndicesProposal.TheVariants as ordered_indices_proposals

abbrev pub text_of : Row → List ℕ
text_of r = take r.1 r.0

-- the row of a word
abbrev pub row_of : Word → Row
row_of w = let t = word_mnemonic w in (t ++ replicate (LONGEST - length t) 32, length t, w)

abbrev pub HasRow : Word → Type 0
HasRow w = find_by text_of (word_mnemonic w) WORDS ≡ Some (row_of w)

compare_row : (word : CompareOp) → HasRow (words.Plain (plain_words.Compare word))
compare_row compare_ops.I32Eqz = refl
compare_row _ = refl

numeric_row : (word : NumericOp) → HasRow (words.Plain (plain_words.Numeric word))
numeric_row numeric_ops.I32Clz = refl
numeric_row _ = refl

convert_row : (word : ConvertOp) → HasRow (words.Plain (plain_words.Convert word))
convert_row convert_ops.I32WrapI64 = refl
convert_row _ = refl

vector_row : (word : VectorOp) → HasRow (words.Plain (plain_words.Vector word))
vector_row vector_ops.I8x16Swizzle = refl
vector_row _ = refl

vector_narrow_row : (word : VectorNarrowOp) → HasRow (words.Plain (plain_words.VectorNarrow word))
vector_narrow_row vector_narrow_ops.I8x16Abs = refl
vector_narrow_row _ = refl

vector_wide_row : (word : VectorWideOp) → HasRow (words.Plain (plain_words.VectorWide word))
vector_wide_row vector_wide_ops.I32x4Abs = refl
vector_wide_row _ = refl

vector_float_row : (word : VectorFloatOp) → HasRow (words.Plain (plain_words.VectorFloat word))
vector_float_row vector_float_ops.F32x4Abs = refl
vector_float_row _ = refl

access_row : (word : AccessOp) → HasRow (words.Memory (memory_words.Access word))
access_row access_ops.I32Load = refl
access_row _ = refl

atomic_row : (word : AtomicOp) → HasRow (words.Memory (memory_words.Atomic word))
atomic_row atomic_ops.MemoryAtomicNotify = refl
atomic_row _ = refl

atomic_rmw_row : (word : AtomicRmwOp) → HasRow (words.Memory (memory_words.AtomicRmw word))
atomic_rmw_row atomic_rmw_ops.I32AtomicRmwAdd = refl
atomic_rmw_row _ = refl

plain_row : (word : PlainWord) → HasRow (words.Plain word)
plain_row (plain_words.Compare op) = compare_row op
plain_row (plain_words.Numeric op) = numeric_row op
plain_row (plain_words.Convert op) = convert_row op
plain_row (plain_words.Vector op) = vector_row op
plain_row (plain_words.VectorNarrow op) = vector_narrow_row op
plain_row (plain_words.VectorWide op) = vector_wide_row op
plain_row (plain_words.VectorFloat op) = vector_float_row op
plain_row _ = refl

name_row : (word : NameWord) → HasRow (words.Name word)
name_row name_words.Else = refl
name_row _ = refl

block_row : (word : BlockWord) → HasRow (words.Block word)
block_row block_words.Block = refl
block_row _ = refl

index_row : (word : IndexWord) → HasRow (words.Index word)
index_row index_words.Catch = refl
index_row _ = refl

indices_row : (word : IndicesWord) → HasRow (words.Indices word)
indices_row indices_words.StructGet = refl
indices_row _ = refl

indirect_row : (word : IndirectWord) → HasRow (words.Indirect word)
indirect_row indirect_words.CallIndirect = refl
indirect_row _ = refl

optional_index_row : (word : OptionalIndexWord) → HasRow (words.OptionalIndex word)
optional_index_row optional_index_words.TableGet = refl
optional_index_row _ = refl

copy_row : (word : CopyWord) → HasRow (words.Copy word)
copy_row copy_words.MemoryCopy = refl
copy_row _ = refl

init_row : (word : InitWord) → HasRow (words.Init word)
init_row init_words.MemoryInit = refl
init_row _ = refl

ref_row : (word : RefWord) → HasRow (words.Ref word)
ref_row ref_words.RefTest = refl
ref_row _ = refl

cast_row : (word : CastWord) → HasRow (words.Cast word)
cast_row cast_words.BrOnCast = refl
cast_row _ = refl

lane_row : (word : LaneWord) → HasRow (words.Lane word)
lane_row lane_words.I8x16ExtractLaneS = refl
lane_row _ = refl

vector_memory_row : (word : VectorMemoryWord) → HasRow (words.Memory (memory_words.Vector word))
vector_memory_row vector_memory_words.V128Load = refl
vector_memory_row _ = refl

memory_lane_row : (word : MemoryLaneWord) → HasRow (words.MemoryLane word)
memory_lane_row memory_lane_words.V128Load8Lane = refl
memory_lane_row _ = refl

plain_proposal_row : (word : PlainProposal) → HasRow (words.Proposal (proposal_words.Plain word))
plain_proposal_row plain_proposals.Pause = refl
plain_proposal_row _ = refl

index_proposal_row : (word : IndexProposal) → HasRow (words.Proposal (proposal_words.Index word))
index_proposal_row index_proposals.ContNew = refl
index_proposal_row _ = refl

indices_proposal_row : (word : IndicesProposal) → HasRow (words.Proposal (proposal_words.Indices word))
indices_proposal_row indices_proposals.ContBind = refl
indices_proposal_row _ = refl

cast_proposal_row : (word : CastProposal) → HasRow (words.Proposal (proposal_words.Cast word))
cast_proposal_row cast_proposals.BrOnCastDescEq = refl
cast_proposal_row _ = refl

resume_proposal_row : (word : ResumeProposal) → HasRow (words.Proposal (proposal_words.Resume word))
resume_proposal_row resume_proposals.Resume = refl
resume_proposal_row _ = refl

ordered_index_proposal_row : (word : OrderedIndexProposal) → HasRow (words.Proposal (proposal_words.OrderedIndex word))
ordered_index_proposal_row ordered_index_proposals.GlobalAtomicGet = refl
ordered_index_proposal_row _ = refl

ordered_optional_index_proposal_row : (word : OrderedOptionalIndexProposal) → HasRow (words.Proposal (proposal_words.OrderedOptionalIndex word))
ordered_optional_index_proposal_row ordered_optional_index_proposals.TableAtomicGet = refl
ordered_optional_index_proposal_row _ = refl

ordered_indices_proposal_row : (word : OrderedIndicesProposal) → HasRow (words.Proposal (proposal_words.OrderedIndices word))
ordered_indices_proposal_row ordered_indices_proposals.StructAtomicGet = refl
ordered_indices_proposal_row _ = refl

pub has_row : (w : Word) → HasRow w
has_row (words.Memory (memory_words.Access op)) = access_row op
has_row (words.Memory (memory_words.Atomic op)) = atomic_row op
has_row (words.Memory (memory_words.AtomicRmw op)) = atomic_rmw_row op
has_row (words.Memory (memory_words.Vector word)) = vector_memory_row word
has_row (words.Plain word) = plain_row word
has_row (words.Name word) = name_row word
has_row (words.Block word) = block_row word
has_row (words.Index word) = index_row word
has_row (words.Indices word) = indices_row word
has_row (words.Indirect word) = indirect_row word
has_row (words.OptionalIndex word) = optional_index_row word
has_row (words.Copy word) = copy_row word
has_row (words.Init word) = init_row word
has_row (words.Ref word) = ref_row word
has_row (words.Cast word) = cast_row word
has_row (words.Lane word) = lane_row word
has_row (words.MemoryLane word) = memory_lane_row word
has_row (words.Proposal (proposal_words.Plain word)) = plain_proposal_row word
has_row (words.Proposal (proposal_words.Index word)) = index_proposal_row word
has_row (words.Proposal (proposal_words.Indices word)) = indices_proposal_row word
has_row (words.Proposal (proposal_words.Cast word)) = cast_proposal_row word
has_row (words.Proposal (proposal_words.Resume word)) = resume_proposal_row word
has_row (words.Proposal (proposal_words.OrderedIndex word)) = ordered_index_proposal_row word
has_row (words.Proposal (proposal_words.OrderedOptionalIndex word)) = ordered_optional_index_proposal_row word
has_row (words.Proposal (proposal_words.OrderedIndices word)) = ordered_indices_proposal_row word
has_row _ = refl
