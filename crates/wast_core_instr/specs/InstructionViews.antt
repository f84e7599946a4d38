-- What the grammar sees of instructions: their operands, and which they are.
use Rattle.std.specs.Prelude.{ℕ, map, option_map}
use Rattle.wast_typed_operands.specs.Tokens.{Name}
use Rattle.wast_typed_operands.specs.Identifiers.{identifier_tree, index_tree}
use Rattle.wast_typed_operands.specs.ValueViews.{heap_tree, ref_tree}
use Rattle.wast_vector_operands.specs.VectorViews.{float_tree, vector_tree}
use Rattle.wast_operands.specs.OperandViews.{handlers_tree, mem_arg_tree, memory_arg_tree, memory_copy_tree, ordering_tree, table_arg_tree, table_copy_tree}
use Rattle.wast_typed_operands.specs.TypedViews.{block_tree, cast_tree, indirect_tree, select_types_tree, try_table_tree}
use Rattle.wast_mnemonics.specs.Heads.{head}
use Rattle.wast_mnemonics.specs.Words.{entry_of}
use Rattle.wast_core_instr.specs.InstructionTree.{Operands, NoOperands, Label, Block, TryTable, One, Two, Counted, LabelTable, Indirect, Optional, OptionalTwo, OptionalThen, Heap, Ref, Cast, Integer, Float, Lanes, Types, Lane, Shuffle, Memory, MemoryLane, Fence, Ordered, Resume, ResumeThrow, choose_second}
use Rattle.wast_core_instr.specs.InstructionTree as spec
use Rattle.wast_core_instr.specs.WordViews.{instruction_word, proposal_word}
use Rattle.wast_core_instr.specs.declared.instruction.Instruction.{Instruction}
use Rattle.wast_core_instr.specs.declared.instruction.Instruction.TheVariants as instructions
use Rattle.wast_core_instr.specs.declared.bulk.BulkOp.{BulkOp}
use Rattle.wast_core_instr.specs.declared.bulk.BulkOp.TheVariants as bulks
use Rattle.wast_core_instr.specs.declared.gc.GcOp.{GcOp}
use Rattle.wast_core_instr.specs.declared.gc.GcOp.TheVariants as gcs
use Rattle.wast_core_instr.specs.declared.vector_arg.VectorArgOp.{VectorArgOp}
use Rattle.wast_core_instr.specs.declared.vector_arg.VectorArgOp.TheVariants as vector_args
use Rattle.wast_core_instr.specs.declared.proposal.ProposalOp.{ProposalOp}
use Rattle.wast_core_instr.specs.declared.proposal.ProposalOp.TheVariants as proposals

abbrev pub bulk_operands : BulkOp → Operands Name ℕ
bulk_operands (bulks.DataDrop index) = One (index_tree index)
bulk_operands (bulks.ElemDrop index) = One (index_tree index)
bulk_operands (bulks.MemoryFill memory) = Optional (memory_arg_tree memory)
bulk_operands (bulks.TableGrow table) = Optional (table_arg_tree table)
bulk_operands (bulks.TableSize table) = Optional (table_arg_tree table)
bulk_operands (bulks.TableFill table) = Optional (table_arg_tree table)
bulk_operands (bulks.MemoryCopy memories) = OptionalTwo (memory_copy_tree memories)
bulk_operands (bulks.TableCopy tables) = OptionalTwo (table_copy_tree tables)
bulk_operands (bulks.MemoryInit operands) = OptionalThen (option_map index_tree operands.value.mem) (index_tree operands.value.«data»)
bulk_operands (bulks.TableInit operands) = OptionalThen (option_map index_tree operands.value.table) (index_tree operands.value.elem)

abbrev pub gc_operands : GcOp → Operands Name ℕ
gc_operands gcs.RefIsNull = NoOperands
gc_operands gcs.RefEq = NoOperands
gc_operands gcs.RefAsNonNull = NoOperands
gc_operands gcs.ArrayLen = NoOperands
gc_operands gcs.AnyConvertExtern = NoOperands
gc_operands gcs.ExternConvertAny = NoOperands
gc_operands gcs.RefI31 = NoOperands
gc_operands gcs.I31GetS = NoOperands
gc_operands gcs.I31GetU = NoOperands
gc_operands (gcs.RefFunc index) = One (index_tree index)
gc_operands (gcs.BrOnNull index) = One (index_tree index)
gc_operands (gcs.BrOnNonNull index) = One (index_tree index)
gc_operands (gcs.StructNew index) = One (index_tree index)
gc_operands (gcs.StructNewDefault index) = One (index_tree index)
gc_operands (gcs.ArrayNew index) = One (index_tree index)
gc_operands (gcs.ArrayNewDefault index) = One (index_tree index)
gc_operands (gcs.ArrayGet index) = One (index_tree index)
gc_operands (gcs.ArrayGetS index) = One (index_tree index)
gc_operands (gcs.ArrayGetU index) = One (index_tree index)
gc_operands (gcs.ArraySet index) = One (index_tree index)
gc_operands (gcs.ArrayFill array) = One (index_tree array.array)
gc_operands (gcs.StructGet access) = Two (index_tree access.value.struct_type) (index_tree access.value.field)
gc_operands (gcs.StructGetS access) = Two (index_tree access.value.struct_type) (index_tree access.value.field)
gc_operands (gcs.StructGetU access) = Two (index_tree access.value.struct_type) (index_tree access.value.field)
gc_operands (gcs.StructSet access) = Two (index_tree access.value.struct_type) (index_tree access.value.field)
gc_operands (gcs.ArrayNewData operands) = Two (index_tree operands.value.array) (index_tree operands.value.data_idx)
gc_operands (gcs.ArrayNewElem operands) = Two (index_tree operands.value.array) (index_tree operands.value.elem_idx)
gc_operands (gcs.ArrayCopy arrays) = Two (index_tree arrays.value.dest_array) (index_tree arrays.value.src_array)
gc_operands (gcs.ArrayInitData operands) = Two (index_tree operands.value.array) (index_tree operands.value.segment)
gc_operands (gcs.ArrayInitElem operands) = Two (index_tree operands.value.array) (index_tree operands.value.segment)
gc_operands (gcs.ArrayNewFixed operands) = Counted (index_tree operands.value.array) operands.value.length
gc_operands (gcs.RefNull heap_type) = Heap (heap_tree heap_type.value)
gc_operands (gcs.RefTest ref_type) = Ref (ref_tree ref_type.value.ty)
gc_operands (gcs.RefCast ref_type) = Ref (ref_tree ref_type.value.ty)
gc_operands (gcs.BrOnCast cast) = Cast (cast_tree cast.value.label cast.value.from_type cast.value.to_type)
gc_operands (gcs.BrOnCastFail cast) = Cast (cast_tree cast.value.label cast.value.from_type cast.value.to_type)

abbrev pub vector_arg_operands : VectorArgOp → Operands Name ℕ
vector_arg_operands (vector_args.V128Const value) = Lanes (vector_tree value.value)
vector_arg_operands (vector_args.I8x16ExtractLaneS lane) = Lane lane.lane
vector_arg_operands (vector_args.I8x16ExtractLaneU lane) = Lane lane.lane
vector_arg_operands (vector_args.I8x16ReplaceLane lane) = Lane lane.lane
vector_arg_operands (vector_args.I16x8ExtractLaneS lane) = Lane lane.lane
vector_arg_operands (vector_args.I16x8ExtractLaneU lane) = Lane lane.lane
vector_arg_operands (vector_args.I16x8ReplaceLane lane) = Lane lane.lane
vector_arg_operands (vector_args.I32x4ExtractLane lane) = Lane lane.lane
vector_arg_operands (vector_args.I32x4ReplaceLane lane) = Lane lane.lane
vector_arg_operands (vector_args.I64x2ExtractLane lane) = Lane lane.lane
vector_arg_operands (vector_args.I64x2ReplaceLane lane) = Lane lane.lane
vector_arg_operands (vector_args.F32x4ExtractLane lane) = Lane lane.lane
vector_arg_operands (vector_args.F32x4ReplaceLane lane) = Lane lane.lane
vector_arg_operands (vector_args.F64x2ExtractLane lane) = Lane lane.lane
vector_arg_operands (vector_args.F64x2ReplaceLane lane) = Lane lane.lane
vector_arg_operands (vector_args.I8x16Shuffle lanes) = Shuffle lanes.lanes
vector_arg_operands (vector_args.V128Load memarg) = Memory (mem_arg_tree memarg)
vector_arg_operands (vector_args.V128Load8x8S memarg) = Memory (mem_arg_tree memarg)
vector_arg_operands (vector_args.V128Load8x8U memarg) = Memory (mem_arg_tree memarg)
vector_arg_operands (vector_args.V128Load16x4S memarg) = Memory (mem_arg_tree memarg)
vector_arg_operands (vector_args.V128Load16x4U memarg) = Memory (mem_arg_tree memarg)
vector_arg_operands (vector_args.V128Load32x2S memarg) = Memory (mem_arg_tree memarg)
vector_arg_operands (vector_args.V128Load32x2U memarg) = Memory (mem_arg_tree memarg)
vector_arg_operands (vector_args.V128Load8Splat memarg) = Memory (mem_arg_tree memarg)
vector_arg_operands (vector_args.V128Load16Splat memarg) = Memory (mem_arg_tree memarg)
vector_arg_operands (vector_args.V128Load32Splat memarg) = Memory (mem_arg_tree memarg)
vector_arg_operands (vector_args.V128Load64Splat memarg) = Memory (mem_arg_tree memarg)
vector_arg_operands (vector_args.V128Store memarg) = Memory (mem_arg_tree memarg)
vector_arg_operands (vector_args.V128Load32Zero memarg) = Memory (mem_arg_tree memarg)
vector_arg_operands (vector_args.V128Load64Zero memarg) = Memory (mem_arg_tree memarg)
vector_arg_operands (vector_args.V128Load8Lane operands) = MemoryLane (mem_arg_tree operands.memarg) operands.lane.lane
vector_arg_operands (vector_args.V128Load16Lane operands) = MemoryLane (mem_arg_tree operands.memarg) operands.lane.lane
vector_arg_operands (vector_args.V128Load32Lane operands) = MemoryLane (mem_arg_tree operands.memarg) operands.lane.lane
vector_arg_operands (vector_args.V128Load64Lane operands) = MemoryLane (mem_arg_tree operands.memarg) operands.lane.lane
vector_arg_operands (vector_args.V128Store8Lane operands) = MemoryLane (mem_arg_tree operands.memarg) operands.lane.lane
vector_arg_operands (vector_args.V128Store16Lane operands) = MemoryLane (mem_arg_tree operands.memarg) operands.lane.lane
vector_arg_operands (vector_args.V128Store32Lane operands) = MemoryLane (mem_arg_tree operands.memarg) operands.lane.lane
vector_arg_operands (vector_args.V128Store64Lane operands) = MemoryLane (mem_arg_tree operands.memarg) operands.lane.lane

abbrev pub proposal_operands : ProposalOp → Operands Name ℕ
proposal_operands proposals.Pause = NoOperands
proposal_operands proposals.RefI31Shared = NoOperands
proposal_operands (proposals.ContNew index) = One (index_tree index)
proposal_operands (proposals.Suspend index) = One (index_tree index)
proposal_operands (proposals.StructNewDesc index) = One (index_tree index)
proposal_operands (proposals.StructNewDefaultDesc index) = One (index_tree index)
proposal_operands (proposals.RefGetDesc index) = One (index_tree index)
proposal_operands (proposals.ContBind operands) = Two (index_tree operands.argument_index) (index_tree operands.result_index)
proposal_operands (proposals.Switch operands) = Two (index_tree operands.type_index) (index_tree operands.tag_index)
proposal_operands (proposals.MemoryDiscard memory) = Optional (memory_arg_tree memory)
proposal_operands (proposals.RefCastDescEq ref_type) = Ref (ref_tree ref_type.ty)
proposal_operands (proposals.BrOnCastDescEq cast) = Cast (cast_tree cast.value.label cast.value.from_type cast.value.to_type)
proposal_operands (proposals.BrOnCastDescEqFail cast) = Cast (cast_tree cast.value.label cast.value.from_type cast.value.to_type)
proposal_operands (proposals.Resume operands) = Resume (index_tree operands.type_index) (handlers_tree operands.table)
proposal_operands (proposals.ResumeThrowRef operands) = Resume (index_tree operands.type_index) (handlers_tree operands.table)
proposal_operands (proposals.ResumeThrow operands) = ResumeThrow (index_tree operands.type_index) (index_tree operands.tag_index) (handlers_tree operands.table)
proposal_operands (proposals.GlobalAtomicGet operand) = Ordered (ordering_tree operand.ordering) (One (index_tree operand.inner))
proposal_operands (proposals.GlobalAtomicSet operand) = Ordered (ordering_tree operand.ordering) (One (index_tree operand.inner))
proposal_operands (proposals.GlobalAtomicRmwAdd operand) = Ordered (ordering_tree operand.ordering) (One (index_tree operand.inner))
proposal_operands (proposals.GlobalAtomicRmwSub operand) = Ordered (ordering_tree operand.ordering) (One (index_tree operand.inner))
proposal_operands (proposals.GlobalAtomicRmwAnd operand) = Ordered (ordering_tree operand.ordering) (One (index_tree operand.inner))
proposal_operands (proposals.GlobalAtomicRmwOr operand) = Ordered (ordering_tree operand.ordering) (One (index_tree operand.inner))
proposal_operands (proposals.GlobalAtomicRmwXor operand) = Ordered (ordering_tree operand.ordering) (One (index_tree operand.inner))
proposal_operands (proposals.GlobalAtomicRmwXchg operand) = Ordered (ordering_tree operand.ordering) (One (index_tree operand.inner))
proposal_operands (proposals.GlobalAtomicRmwCmpxchg operand) = Ordered (ordering_tree operand.ordering) (One (index_tree operand.inner))
proposal_operands (proposals.ArrayAtomicGet operand) = Ordered (ordering_tree operand.ordering) (One (index_tree operand.inner))
proposal_operands (proposals.ArrayAtomicGetS operand) = Ordered (ordering_tree operand.ordering) (One (index_tree operand.inner))
proposal_operands (proposals.ArrayAtomicGetU operand) = Ordered (ordering_tree operand.ordering) (One (index_tree operand.inner))
proposal_operands (proposals.ArrayAtomicSet operand) = Ordered (ordering_tree operand.ordering) (One (index_tree operand.inner))
proposal_operands (proposals.ArrayAtomicRmwAdd operand) = Ordered (ordering_tree operand.ordering) (One (index_tree operand.inner))
proposal_operands (proposals.ArrayAtomicRmwSub operand) = Ordered (ordering_tree operand.ordering) (One (index_tree operand.inner))
proposal_operands (proposals.ArrayAtomicRmwAnd operand) = Ordered (ordering_tree operand.ordering) (One (index_tree operand.inner))
proposal_operands (proposals.ArrayAtomicRmwOr operand) = Ordered (ordering_tree operand.ordering) (One (index_tree operand.inner))
proposal_operands (proposals.ArrayAtomicRmwXor operand) = Ordered (ordering_tree operand.ordering) (One (index_tree operand.inner))
proposal_operands (proposals.ArrayAtomicRmwXchg operand) = Ordered (ordering_tree operand.ordering) (One (index_tree operand.inner))
proposal_operands (proposals.ArrayAtomicRmwCmpxchg operand) = Ordered (ordering_tree operand.ordering) (One (index_tree operand.inner))
proposal_operands (proposals.TableAtomicGet operand) = Ordered (ordering_tree operand.ordering) (Optional (table_arg_tree operand.inner))
proposal_operands (proposals.TableAtomicSet operand) = Ordered (ordering_tree operand.ordering) (Optional (table_arg_tree operand.inner))
proposal_operands (proposals.TableAtomicRmwXchg operand) = Ordered (ordering_tree operand.ordering) (Optional (table_arg_tree operand.inner))
proposal_operands (proposals.TableAtomicRmwCmpxchg operand) = Ordered (ordering_tree operand.ordering) (Optional (table_arg_tree operand.inner))
proposal_operands (proposals.StructAtomicGet operand) = Ordered (ordering_tree operand.ordering) (Two (index_tree operand.inner.struct_type) (index_tree operand.inner.field))
proposal_operands (proposals.StructAtomicGetS operand) = Ordered (ordering_tree operand.ordering) (Two (index_tree operand.inner.struct_type) (index_tree operand.inner.field))
proposal_operands (proposals.StructAtomicGetU operand) = Ordered (ordering_tree operand.ordering) (Two (index_tree operand.inner.struct_type) (index_tree operand.inner.field))
proposal_operands (proposals.StructAtomicSet operand) = Ordered (ordering_tree operand.ordering) (Two (index_tree operand.inner.struct_type) (index_tree operand.inner.field))
proposal_operands (proposals.StructAtomicRmwAdd operand) = Ordered (ordering_tree operand.ordering) (Two (index_tree operand.inner.struct_type) (index_tree operand.inner.field))
proposal_operands (proposals.StructAtomicRmwSub operand) = Ordered (ordering_tree operand.ordering) (Two (index_tree operand.inner.struct_type) (index_tree operand.inner.field))
proposal_operands (proposals.StructAtomicRmwAnd operand) = Ordered (ordering_tree operand.ordering) (Two (index_tree operand.inner.struct_type) (index_tree operand.inner.field))
proposal_operands (proposals.StructAtomicRmwOr operand) = Ordered (ordering_tree operand.ordering) (Two (index_tree operand.inner.struct_type) (index_tree operand.inner.field))
proposal_operands (proposals.StructAtomicRmwXor operand) = Ordered (ordering_tree operand.ordering) (Two (index_tree operand.inner.struct_type) (index_tree operand.inner.field))
proposal_operands (proposals.StructAtomicRmwXchg operand) = Ordered (ordering_tree operand.ordering) (Two (index_tree operand.inner.struct_type) (index_tree operand.inner.field))
proposal_operands (proposals.StructAtomicRmwCmpxchg operand) = Ordered (ordering_tree operand.ordering) (Two (index_tree operand.inner.struct_type) (index_tree operand.inner.field))

abbrev pub instruction_operands : Instruction → Operands Name ℕ
instruction_operands instructions.Unreachable = NoOperands
instruction_operands instructions.Nop = NoOperands
instruction_operands (instructions.Block block_type) = Block (block_tree block_type.value)
instruction_operands (instructions.Loop block_type) = Block (block_tree block_type.value)
instruction_operands (instructions.If block_type) = Block (block_tree block_type.value)
instruction_operands (instructions.Else label) = Label (option_map identifier_tree label)
instruction_operands (instructions.Try block_type) = Block (block_tree block_type.value)
instruction_operands (instructions.Catch index) = One (index_tree index)
instruction_operands (instructions.Throw index) = One (index_tree index)
instruction_operands (instructions.Rethrow index) = One (index_tree index)
instruction_operands instructions.ThrowRef = NoOperands
instruction_operands (instructions.End label) = Label (option_map identifier_tree label)
instruction_operands (instructions.Br index) = One (index_tree index)
instruction_operands (instructions.BrIf index) = One (index_tree index)
instruction_operands (instructions.BrTable labels) = LabelTable (map index_tree labels.value.labels.items) (index_tree labels.value.default)
instruction_operands instructions.Return = NoOperands
instruction_operands (instructions.Call index) = One (index_tree index)
instruction_operands (instructions.CallIndirect call) = Indirect (indirect_tree call.value)
instruction_operands (instructions.ReturnCall index) = One (index_tree index)
instruction_operands (instructions.ReturnCallIndirect call) = Indirect (indirect_tree call.value)
instruction_operands (instructions.CallRef index) = One (index_tree index)
instruction_operands (instructions.ReturnCallRef index) = One (index_tree index)
instruction_operands (instructions.Delegate index) = One (index_tree index)
instruction_operands instructions.CatchAll = NoOperands
instruction_operands instructions.Drop = NoOperands
instruction_operands (instructions.Select types) = Types (select_types_tree types)
instruction_operands (instructions.TryTable try_table) = TryTable (try_table_tree try_table)
instruction_operands (instructions.LocalGet index) = One (index_tree index)
instruction_operands (instructions.LocalSet index) = One (index_tree index)
instruction_operands (instructions.LocalTee index) = One (index_tree index)
instruction_operands (instructions.GlobalGet index) = One (index_tree index)
instruction_operands (instructions.GlobalSet index) = One (index_tree index)
instruction_operands (instructions.TableGet table) = Optional (table_arg_tree table)
instruction_operands (instructions.TableSet table) = Optional (table_arg_tree table)
instruction_operands (instructions.MemorySize memory) = Optional (memory_arg_tree memory)
instruction_operands (instructions.MemoryGrow memory) = Optional (memory_arg_tree memory)
instruction_operands (instructions.I32Const value) = Integer value
instruction_operands (instructions.I64Const value) = Integer value
instruction_operands (instructions.F32Const value) = Float (float_tree value)
instruction_operands (instructions.F64Const value) = Float (float_tree value)
instruction_operands (instructions.Compare op) = NoOperands
instruction_operands (instructions.Numeric op) = NoOperands
instruction_operands (instructions.Convert op) = NoOperands
instruction_operands (instructions.Vector op) = NoOperands
instruction_operands (instructions.VectorNarrow op) = NoOperands
instruction_operands (instructions.VectorWide op) = NoOperands
instruction_operands (instructions.VectorFloat op) = NoOperands
instruction_operands (instructions.Access op memarg) = Memory (mem_arg_tree memarg)
instruction_operands (instructions.AtomicFence ordering) = Fence (option_map ordering_tree ordering)
instruction_operands (instructions.Atomic op memarg) = Memory (mem_arg_tree memarg)
instruction_operands (instructions.AtomicRmw op memarg) = Memory (mem_arg_tree memarg)
instruction_operands (instructions.Bulk op) = bulk_operands op
instruction_operands (instructions.Gc op) = gc_operands op
instruction_operands (instructions.VectorArg op) = vector_arg_operands op
instruction_operands (instructions.Proposal op) = proposal_operands op.value

-- which one of a proposal is, and its operands
abbrev pub proposal_tree : ProposalOp → spec.Instruction Name ℕ
proposal_tree op = record { head = head (entry_of (proposal_word op)) (choose_second (proposal_operands op)); operands = proposal_operands op }

-- which it is, and its operands
abbrev pub instruction_tree : Instruction → spec.Instruction Name ℕ
instruction_tree i = record { head = head (entry_of (instruction_word i)) (choose_second (instruction_operands i)); operands = instruction_operands i }
