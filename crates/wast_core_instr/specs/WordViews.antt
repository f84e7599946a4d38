-- Which word each instruction begins with.
use Rattle.wast_mnemonics.specs.declared.word.Word.{Word}
use Rattle.wast_mnemonics.specs.declared.word.Word.TheVariants as words
use Rattle.wast_mnemonics.specs.declared.word.MemoryWord.TheVariants as memory_words
use Rattle.wast_mnemonics.specs.declared.word.BlockWord.TheVariants as block_words
use Rattle.wast_mnemonics.specs.declared.word.CastWord.TheVariants as cast_words
use Rattle.wast_mnemonics.specs.declared.word.CopyWord.TheVariants as copy_words
use Rattle.wast_mnemonics.specs.declared.word.IndexWord.TheVariants as index_words
use Rattle.wast_mnemonics.specs.declared.word.IndicesWord.TheVariants as indices_words
use Rattle.wast_mnemonics.specs.declared.word.IndirectWord.TheVariants as indirect_words
use Rattle.wast_mnemonics.specs.declared.word.InitWord.TheVariants as init_words
use Rattle.wast_mnemonics.specs.declared.word.LaneWord.TheVariants as lane_words
use Rattle.wast_mnemonics.specs.declared.word.MemoryLaneWord.TheVariants as memory_lane_words
use Rattle.wast_mnemonics.specs.declared.word.NameWord.TheVariants as name_words
use Rattle.wast_mnemonics.specs.declared.word.OptionalIndexWord.TheVariants as optional_index_words
use Rattle.wast_mnemonics.specs.declared.word.PlainWord.TheVariants as plain_words
use Rattle.wast_mnemonics.specs.declared.word.RefWord.TheVariants as ref_words
use Rattle.wast_mnemonics.specs.declared.word.VectorMemoryWord.TheVariants as vector_memory_words
use Rattle.wast_mnemonics.specs.declared.proposal.ProposalWord.TheVariants as proposal_words
use Rattle.wast_mnemonics.specs.declared.proposal.CastProposal.TheVariants as cast_proposals
use Rattle.wast_mnemonics.specs.declared.proposal.IndexProposal.TheVariants as index_proposals
use Rattle.wast_mnemonics.specs.declared.proposal.IndicesProposal.TheVariants as indices_proposals
use Rattle.wast_mnemonics.specs.declared.proposal.OrderedIndexProposal.TheVariants as ordered_index_proposals
use Rattle.wast_mnemonics.specs.declared.proposal.OrderedIndicesProposal.TheVariants as ordered_indices_proposals
use Rattle.wast_mnemonics.specs.declared.proposal.OrderedOptionalIndexProposal.TheVariants as ordered_optional_index_proposals
use Rattle.wast_mnemonics.specs.declared.proposal.PlainProposal.TheVariants as plain_proposals
use Rattle.wast_mnemonics.specs.declared.proposal.ResumeProposal.TheVariants as resume_proposals
use Rattle.wast_core_instr.specs.declared.instruction.Instruction.{Instruction}
use Rattle.wast_core_instr.specs.declared.instruction.Instruction.TheVariants as instructions
use Rattle.wast_core_instr.specs.declared.bulk.BulkOp.{BulkOp}
use Rattle.wast_core_instr.specs.declared.bulk.BulkOp.TheVariants as bulks
use Rattle.wast_core_instr.specs.declared.gc.GcOp.{GcOp}
use Rattle.wast_core_instr.specs.declared.gc.GcOp.TheVariants as gcs
use Rattle.wast_core_instr.specs.declared.vector_arg.VectorArgOp.{VectorArgOp}
use Rattle.wast_core_instr.specs.declared.vector_arg.VectorArgOp.TheVariants as vector_args
use Rattle.wast_core_instr.specs.declared.proposal.ProposalOp.{ProposalOp}
use Rattle.wast_core_instr.specs.declared.proposal.ProposalOp.TheVariants as proposals

abbrev pub bulk_word : BulkOp → Word
bulk_word (bulks.DataDrop index) = words.Index index_words.DataDrop
bulk_word (bulks.ElemDrop index) = words.Index index_words.ElemDrop
bulk_word (bulks.MemoryFill memory) = words.OptionalIndex optional_index_words.MemoryFill
bulk_word (bulks.TableGrow table) = words.OptionalIndex optional_index_words.TableGrow
bulk_word (bulks.TableSize table) = words.OptionalIndex optional_index_words.TableSize
bulk_word (bulks.TableFill table) = words.OptionalIndex optional_index_words.TableFill
bulk_word (bulks.MemoryCopy memories) = words.Copy copy_words.MemoryCopy
bulk_word (bulks.TableCopy tables) = words.Copy copy_words.TableCopy
bulk_word (bulks.MemoryInit operands) = words.Init init_words.MemoryInit
bulk_word (bulks.TableInit operands) = words.Init init_words.TableInit

abbrev pub gc_word : GcOp → Word
gc_word gcs.RefIsNull = words.Plain plain_words.RefIsNull
gc_word gcs.RefEq = words.Plain plain_words.RefEq
gc_word gcs.RefAsNonNull = words.Plain plain_words.RefAsNonNull
gc_word gcs.ArrayLen = words.Plain plain_words.ArrayLen
gc_word gcs.AnyConvertExtern = words.Plain plain_words.AnyConvertExtern
gc_word gcs.ExternConvertAny = words.Plain plain_words.ExternConvertAny
gc_word gcs.RefI31 = words.Plain plain_words.RefI31
gc_word gcs.I31GetS = words.Plain plain_words.I31GetS
gc_word gcs.I31GetU = words.Plain plain_words.I31GetU
gc_word (gcs.RefFunc index) = words.Index index_words.RefFunc
gc_word (gcs.BrOnNull index) = words.Index index_words.BrOnNull
gc_word (gcs.BrOnNonNull index) = words.Index index_words.BrOnNonNull
gc_word (gcs.StructNew index) = words.Index index_words.StructNew
gc_word (gcs.StructNewDefault index) = words.Index index_words.StructNewDefault
gc_word (gcs.ArrayNew index) = words.Index index_words.ArrayNew
gc_word (gcs.ArrayNewDefault index) = words.Index index_words.ArrayNewDefault
gc_word (gcs.ArrayGet index) = words.Index index_words.ArrayGet
gc_word (gcs.ArrayGetS index) = words.Index index_words.ArrayGetS
gc_word (gcs.ArrayGetU index) = words.Index index_words.ArrayGetU
gc_word (gcs.ArraySet index) = words.Index index_words.ArraySet
gc_word (gcs.ArrayFill array) = words.Index index_words.ArrayFill
gc_word (gcs.StructGet access) = words.Indices indices_words.StructGet
gc_word (gcs.StructGetS access) = words.Indices indices_words.StructGetS
gc_word (gcs.StructGetU access) = words.Indices indices_words.StructGetU
gc_word (gcs.StructSet access) = words.Indices indices_words.StructSet
gc_word (gcs.ArrayNewData operands) = words.Indices indices_words.ArrayNewData
gc_word (gcs.ArrayNewElem operands) = words.Indices indices_words.ArrayNewElem
gc_word (gcs.ArrayCopy arrays) = words.Indices indices_words.ArrayCopy
gc_word (gcs.ArrayInitData operands) = words.Indices indices_words.ArrayInitData
gc_word (gcs.ArrayInitElem operands) = words.Indices indices_words.ArrayInitElem
gc_word (gcs.ArrayNewFixed operands) = words.ArrayNewFixed
gc_word (gcs.RefNull heap_type) = words.RefNull
gc_word (gcs.RefTest ref_type) = words.Ref ref_words.RefTest
gc_word (gcs.RefCast ref_type) = words.Ref ref_words.RefCast
gc_word (gcs.BrOnCast cast) = words.Cast cast_words.BrOnCast
gc_word (gcs.BrOnCastFail cast) = words.Cast cast_words.BrOnCastFail

abbrev pub vector_arg_word : VectorArgOp → Word
vector_arg_word (vector_args.V128Const value) = words.V128Const
vector_arg_word (vector_args.I8x16ExtractLaneS lane) = words.Lane lane_words.I8x16ExtractLaneS
vector_arg_word (vector_args.I8x16ExtractLaneU lane) = words.Lane lane_words.I8x16ExtractLaneU
vector_arg_word (vector_args.I8x16ReplaceLane lane) = words.Lane lane_words.I8x16ReplaceLane
vector_arg_word (vector_args.I16x8ExtractLaneS lane) = words.Lane lane_words.I16x8ExtractLaneS
vector_arg_word (vector_args.I16x8ExtractLaneU lane) = words.Lane lane_words.I16x8ExtractLaneU
vector_arg_word (vector_args.I16x8ReplaceLane lane) = words.Lane lane_words.I16x8ReplaceLane
vector_arg_word (vector_args.I32x4ExtractLane lane) = words.Lane lane_words.I32x4ExtractLane
vector_arg_word (vector_args.I32x4ReplaceLane lane) = words.Lane lane_words.I32x4ReplaceLane
vector_arg_word (vector_args.I64x2ExtractLane lane) = words.Lane lane_words.I64x2ExtractLane
vector_arg_word (vector_args.I64x2ReplaceLane lane) = words.Lane lane_words.I64x2ReplaceLane
vector_arg_word (vector_args.F32x4ExtractLane lane) = words.Lane lane_words.F32x4ExtractLane
vector_arg_word (vector_args.F32x4ReplaceLane lane) = words.Lane lane_words.F32x4ReplaceLane
vector_arg_word (vector_args.F64x2ExtractLane lane) = words.Lane lane_words.F64x2ExtractLane
vector_arg_word (vector_args.F64x2ReplaceLane lane) = words.Lane lane_words.F64x2ReplaceLane
vector_arg_word (vector_args.I8x16Shuffle lanes) = words.I8x16Shuffle
vector_arg_word (vector_args.V128Load memarg) = words.Memory (memory_words.Vector vector_memory_words.V128Load)
vector_arg_word (vector_args.V128Load8x8S memarg) = words.Memory (memory_words.Vector vector_memory_words.V128Load8x8S)
vector_arg_word (vector_args.V128Load8x8U memarg) = words.Memory (memory_words.Vector vector_memory_words.V128Load8x8U)
vector_arg_word (vector_args.V128Load16x4S memarg) = words.Memory (memory_words.Vector vector_memory_words.V128Load16x4S)
vector_arg_word (vector_args.V128Load16x4U memarg) = words.Memory (memory_words.Vector vector_memory_words.V128Load16x4U)
vector_arg_word (vector_args.V128Load32x2S memarg) = words.Memory (memory_words.Vector vector_memory_words.V128Load32x2S)
vector_arg_word (vector_args.V128Load32x2U memarg) = words.Memory (memory_words.Vector vector_memory_words.V128Load32x2U)
vector_arg_word (vector_args.V128Load8Splat memarg) = words.Memory (memory_words.Vector vector_memory_words.V128Load8Splat)
vector_arg_word (vector_args.V128Load16Splat memarg) = words.Memory (memory_words.Vector vector_memory_words.V128Load16Splat)
vector_arg_word (vector_args.V128Load32Splat memarg) = words.Memory (memory_words.Vector vector_memory_words.V128Load32Splat)
vector_arg_word (vector_args.V128Load64Splat memarg) = words.Memory (memory_words.Vector vector_memory_words.V128Load64Splat)
vector_arg_word (vector_args.V128Store memarg) = words.Memory (memory_words.Vector vector_memory_words.V128Store)
vector_arg_word (vector_args.V128Load32Zero memarg) = words.Memory (memory_words.Vector vector_memory_words.V128Load32Zero)
vector_arg_word (vector_args.V128Load64Zero memarg) = words.Memory (memory_words.Vector vector_memory_words.V128Load64Zero)
vector_arg_word (vector_args.V128Load8Lane operands) = words.MemoryLane memory_lane_words.V128Load8Lane
vector_arg_word (vector_args.V128Load16Lane operands) = words.MemoryLane memory_lane_words.V128Load16Lane
vector_arg_word (vector_args.V128Load32Lane operands) = words.MemoryLane memory_lane_words.V128Load32Lane
vector_arg_word (vector_args.V128Load64Lane operands) = words.MemoryLane memory_lane_words.V128Load64Lane
vector_arg_word (vector_args.V128Store8Lane operands) = words.MemoryLane memory_lane_words.V128Store8Lane
vector_arg_word (vector_args.V128Store16Lane operands) = words.MemoryLane memory_lane_words.V128Store16Lane
vector_arg_word (vector_args.V128Store32Lane operands) = words.MemoryLane memory_lane_words.V128Store32Lane
vector_arg_word (vector_args.V128Store64Lane operands) = words.MemoryLane memory_lane_words.V128Store64Lane

abbrev pub proposal_word : ProposalOp → Word
proposal_word proposals.Pause = words.Proposal (proposal_words.Plain plain_proposals.Pause)
proposal_word proposals.RefI31Shared = words.Proposal (proposal_words.Plain plain_proposals.RefI31Shared)
proposal_word (proposals.ContNew index) = words.Proposal (proposal_words.Index index_proposals.ContNew)
proposal_word (proposals.Suspend index) = words.Proposal (proposal_words.Index index_proposals.Suspend)
proposal_word (proposals.StructNewDesc index) = words.Proposal (proposal_words.Index index_proposals.StructNewDesc)
proposal_word (proposals.StructNewDefaultDesc index) = words.Proposal (proposal_words.Index index_proposals.StructNewDefaultDesc)
proposal_word (proposals.RefGetDesc index) = words.Proposal (proposal_words.Index index_proposals.RefGetDesc)
proposal_word (proposals.ContBind operands) = words.Proposal (proposal_words.Indices indices_proposals.ContBind)
proposal_word (proposals.Switch operands) = words.Proposal (proposal_words.Indices indices_proposals.Switch)
proposal_word (proposals.MemoryDiscard memory) = words.Proposal proposal_words.MemoryDiscard
proposal_word (proposals.RefCastDescEq ref_type) = words.Proposal proposal_words.RefCastDescEq
proposal_word (proposals.BrOnCastDescEq cast) = words.Proposal (proposal_words.Cast cast_proposals.BrOnCastDescEq)
proposal_word (proposals.BrOnCastDescEqFail cast) = words.Proposal (proposal_words.Cast cast_proposals.BrOnCastDescEqFail)
proposal_word (proposals.Resume operands) = words.Proposal (proposal_words.Resume resume_proposals.Resume)
proposal_word (proposals.ResumeThrowRef operands) = words.Proposal (proposal_words.Resume resume_proposals.ResumeThrowRef)
proposal_word (proposals.ResumeThrow operands) = words.Proposal proposal_words.ResumeThrow
proposal_word (proposals.GlobalAtomicGet operand) = words.Proposal (proposal_words.OrderedIndex ordered_index_proposals.GlobalAtomicGet)
proposal_word (proposals.GlobalAtomicSet operand) = words.Proposal (proposal_words.OrderedIndex ordered_index_proposals.GlobalAtomicSet)
proposal_word (proposals.GlobalAtomicRmwAdd operand) = words.Proposal (proposal_words.OrderedIndex ordered_index_proposals.GlobalAtomicRmwAdd)
proposal_word (proposals.GlobalAtomicRmwSub operand) = words.Proposal (proposal_words.OrderedIndex ordered_index_proposals.GlobalAtomicRmwSub)
proposal_word (proposals.GlobalAtomicRmwAnd operand) = words.Proposal (proposal_words.OrderedIndex ordered_index_proposals.GlobalAtomicRmwAnd)
proposal_word (proposals.GlobalAtomicRmwOr operand) = words.Proposal (proposal_words.OrderedIndex ordered_index_proposals.GlobalAtomicRmwOr)
proposal_word (proposals.GlobalAtomicRmwXor operand) = words.Proposal (proposal_words.OrderedIndex ordered_index_proposals.GlobalAtomicRmwXor)
proposal_word (proposals.GlobalAtomicRmwXchg operand) = words.Proposal (proposal_words.OrderedIndex ordered_index_proposals.GlobalAtomicRmwXchg)
proposal_word (proposals.GlobalAtomicRmwCmpxchg operand) = words.Proposal (proposal_words.OrderedIndex ordered_index_proposals.GlobalAtomicRmwCmpxchg)
proposal_word (proposals.ArrayAtomicGet operand) = words.Proposal (proposal_words.OrderedIndex ordered_index_proposals.ArrayAtomicGet)
proposal_word (proposals.ArrayAtomicGetS operand) = words.Proposal (proposal_words.OrderedIndex ordered_index_proposals.ArrayAtomicGetS)
proposal_word (proposals.ArrayAtomicGetU operand) = words.Proposal (proposal_words.OrderedIndex ordered_index_proposals.ArrayAtomicGetU)
proposal_word (proposals.ArrayAtomicSet operand) = words.Proposal (proposal_words.OrderedIndex ordered_index_proposals.ArrayAtomicSet)
proposal_word (proposals.ArrayAtomicRmwAdd operand) = words.Proposal (proposal_words.OrderedIndex ordered_index_proposals.ArrayAtomicRmwAdd)
proposal_word (proposals.ArrayAtomicRmwSub operand) = words.Proposal (proposal_words.OrderedIndex ordered_index_proposals.ArrayAtomicRmwSub)
proposal_word (proposals.ArrayAtomicRmwAnd operand) = words.Proposal (proposal_words.OrderedIndex ordered_index_proposals.ArrayAtomicRmwAnd)
proposal_word (proposals.ArrayAtomicRmwOr operand) = words.Proposal (proposal_words.OrderedIndex ordered_index_proposals.ArrayAtomicRmwOr)
proposal_word (proposals.ArrayAtomicRmwXor operand) = words.Proposal (proposal_words.OrderedIndex ordered_index_proposals.ArrayAtomicRmwXor)
proposal_word (proposals.ArrayAtomicRmwXchg operand) = words.Proposal (proposal_words.OrderedIndex ordered_index_proposals.ArrayAtomicRmwXchg)
proposal_word (proposals.ArrayAtomicRmwCmpxchg operand) = words.Proposal (proposal_words.OrderedIndex ordered_index_proposals.ArrayAtomicRmwCmpxchg)
proposal_word (proposals.TableAtomicGet operand) = words.Proposal (proposal_words.OrderedOptionalIndex ordered_optional_index_proposals.TableAtomicGet)
proposal_word (proposals.TableAtomicSet operand) = words.Proposal (proposal_words.OrderedOptionalIndex ordered_optional_index_proposals.TableAtomicSet)
proposal_word (proposals.TableAtomicRmwXchg operand) = words.Proposal (proposal_words.OrderedOptionalIndex ordered_optional_index_proposals.TableAtomicRmwXchg)
proposal_word (proposals.TableAtomicRmwCmpxchg operand) = words.Proposal (proposal_words.OrderedOptionalIndex ordered_optional_index_proposals.TableAtomicRmwCmpxchg)
proposal_word (proposals.StructAtomicGet operand) = words.Proposal (proposal_words.OrderedIndices ordered_indices_proposals.StructAtomicGet)
proposal_word (proposals.StructAtomicGetS operand) = words.Proposal (proposal_words.OrderedIndices ordered_indices_proposals.StructAtomicGetS)
proposal_word (proposals.StructAtomicGetU operand) = words.Proposal (proposal_words.OrderedIndices ordered_indices_proposals.StructAtomicGetU)
proposal_word (proposals.StructAtomicSet operand) = words.Proposal (proposal_words.OrderedIndices ordered_indices_proposals.StructAtomicSet)
proposal_word (proposals.StructAtomicRmwAdd operand) = words.Proposal (proposal_words.OrderedIndices ordered_indices_proposals.StructAtomicRmwAdd)
proposal_word (proposals.StructAtomicRmwSub operand) = words.Proposal (proposal_words.OrderedIndices ordered_indices_proposals.StructAtomicRmwSub)
proposal_word (proposals.StructAtomicRmwAnd operand) = words.Proposal (proposal_words.OrderedIndices ordered_indices_proposals.StructAtomicRmwAnd)
proposal_word (proposals.StructAtomicRmwOr operand) = words.Proposal (proposal_words.OrderedIndices ordered_indices_proposals.StructAtomicRmwOr)
proposal_word (proposals.StructAtomicRmwXor operand) = words.Proposal (proposal_words.OrderedIndices ordered_indices_proposals.StructAtomicRmwXor)
proposal_word (proposals.StructAtomicRmwXchg operand) = words.Proposal (proposal_words.OrderedIndices ordered_indices_proposals.StructAtomicRmwXchg)
proposal_word (proposals.StructAtomicRmwCmpxchg operand) = words.Proposal (proposal_words.OrderedIndices ordered_indices_proposals.StructAtomicRmwCmpxchg)

abbrev pub instruction_word : Instruction → Word
instruction_word instructions.Unreachable = words.Plain plain_words.Unreachable
instruction_word instructions.Nop = words.Plain plain_words.Nop
instruction_word (instructions.Block block_type) = words.Block block_words.Block
instruction_word (instructions.Loop block_type) = words.Block block_words.Loop
instruction_word (instructions.If block_type) = words.Block block_words.If
instruction_word (instructions.Else label) = words.Name name_words.Else
instruction_word (instructions.Try block_type) = words.Block block_words.Try
instruction_word (instructions.Catch index) = words.Index index_words.Catch
instruction_word (instructions.Throw index) = words.Index index_words.Throw
instruction_word (instructions.Rethrow index) = words.Index index_words.Rethrow
instruction_word instructions.ThrowRef = words.Plain plain_words.ThrowRef
instruction_word (instructions.End label) = words.Name name_words.End
instruction_word (instructions.Br index) = words.Index index_words.Br
instruction_word (instructions.BrIf index) = words.Index index_words.BrIf
instruction_word (instructions.BrTable labels) = words.BrTable
instruction_word instructions.Return = words.Plain plain_words.Return
instruction_word (instructions.Call index) = words.Index index_words.Call
instruction_word (instructions.CallIndirect call) = words.Indirect indirect_words.CallIndirect
instruction_word (instructions.ReturnCall index) = words.Index index_words.ReturnCall
instruction_word (instructions.ReturnCallIndirect call) = words.Indirect indirect_words.ReturnCallIndirect
instruction_word (instructions.CallRef index) = words.Index index_words.CallRef
instruction_word (instructions.ReturnCallRef index) = words.Index index_words.ReturnCallRef
instruction_word (instructions.Delegate index) = words.Index index_words.Delegate
instruction_word instructions.CatchAll = words.Plain plain_words.CatchAll
instruction_word instructions.Drop = words.Plain plain_words.Drop
instruction_word (instructions.Select types) = words.Select
instruction_word (instructions.TryTable try_table) = words.TryTable
instruction_word (instructions.LocalGet index) = words.Index index_words.LocalGet
instruction_word (instructions.LocalSet index) = words.Index index_words.LocalSet
instruction_word (instructions.LocalTee index) = words.Index index_words.LocalTee
instruction_word (instructions.GlobalGet index) = words.Index index_words.GlobalGet
instruction_word (instructions.GlobalSet index) = words.Index index_words.GlobalSet
instruction_word (instructions.TableGet table) = words.OptionalIndex optional_index_words.TableGet
instruction_word (instructions.TableSet table) = words.OptionalIndex optional_index_words.TableSet
instruction_word (instructions.MemorySize memory) = words.OptionalIndex optional_index_words.MemorySize
instruction_word (instructions.MemoryGrow memory) = words.OptionalIndex optional_index_words.MemoryGrow
instruction_word (instructions.I32Const value) = words.I32Const
instruction_word (instructions.I64Const value) = words.I64Const
instruction_word (instructions.F32Const value) = words.F32Const
instruction_word (instructions.F64Const value) = words.F64Const
instruction_word (instructions.Compare op) = words.Plain (plain_words.Compare op)
instruction_word (instructions.Numeric op) = words.Plain (plain_words.Numeric op)
instruction_word (instructions.Convert op) = words.Plain (plain_words.Convert op)
instruction_word (instructions.Vector op) = words.Plain (plain_words.Vector op)
instruction_word (instructions.VectorNarrow op) = words.Plain (plain_words.VectorNarrow op)
instruction_word (instructions.VectorWide op) = words.Plain (plain_words.VectorWide op)
instruction_word (instructions.VectorFloat op) = words.Plain (plain_words.VectorFloat op)
instruction_word (instructions.Access op memarg) = words.Memory (memory_words.Access op)
instruction_word (instructions.AtomicFence ordering) = words.AtomicFence
instruction_word (instructions.Atomic op memarg) = words.Memory (memory_words.Atomic op)
instruction_word (instructions.AtomicRmw op memarg) = words.Memory (memory_words.AtomicRmw op)
instruction_word (instructions.Bulk op) = bulk_word op
instruction_word (instructions.Gc op) = gc_word op
instruction_word (instructions.VectorArg op) = vector_arg_word op
instruction_word (instructions.Proposal op) = proposal_word op.value
