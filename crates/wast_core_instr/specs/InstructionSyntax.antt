-- The syntax of instructions (WebAssembly 3.0, 6.5).
use Rattle.std.specs.Prelude.{true, false, List, [], ◌∷◌, map}
use Rattle.wasm_encoder_base.specs.OperandSyntax.{OperandSyntax}
use Rattle.wasm_encoder_base.specs.OperandSyntax as rows
use Rattle.wast_typed_operands.specs.Look.{Test, On, AWord, OneOf, join, faults, id_starts, index_starts}
use Rattle.wast_typed_operands.specs.Grammar.{Syntax, among, nothing, next, seen, maybe}
use Rattle.wast_typed_operands.specs.Identifiers.{identifier, index}
use Rattle.wast_typed_operands.specs.ValueSyntax.{heap_starts, ref_starts, heap_type, ref_type}
use Rattle.wast_vector_operands.specs.VectorSyntax.{float_starts, shape_starts, signed_literal, float_literal, lane, shuffle, vector}
use Rattle.wast_operands.specs.OperandSyntax.{lane_starts, handle_starts, two_indices, index_count, label_table, optional_index, optional_indices, one_or_two, optional_ordering, mem_arg, mem_arg_lane, resume, resume_throw}
use Rattle.wast_operands.specs.OperandSyntax as behind
use Rattle.wast_typed_operands.specs.TypedSyntax.{use_starts, catch_starts, block, try_table, indirect, cast, select_types}
use Rattle.wast_mnemonics.specs.TextTable.{TextOperands, TextEntry, text_table}
use Rattle.wast_mnemonics.specs.TextTable as text
use Rattle.wast_mnemonics.specs.Heads.{head}
use Rattle.wast_core_instr.specs.InstructionTree.{Operands, NoOperands, Label, Block, TryTable, One, Two, Counted, LabelTable, Indirect, Optional, OptionalTwo, OptionalThen, Heap, Ref, Cast, Integer, Float, Lanes, Types, Lane, Shuffle, Memory, MemoryLane, Fence, Ordered, Resume, ResumeThrow, Instruction, choose_second}

module _ {N P : Type 0} where
  -- OPERANDS, by what the table says of a mnemonic
  abbrev pub listed : OperandSyntax → Syntax N P (Operands N P)
  listed rows.Plain = seen (λ _. NoOperands) nothing
  listed rows.Name = seen Label (maybe id_starts identifier)
  listed rows.Block = seen Block block
  listed rows.TryTable = seen TryTable try_table
  listed (rows.Index s) = seen One index
  listed (rows.Indices s t) = seen (λ x. Two x.0 x.1) two_indices
  listed (rows.IndexCount s) = seen (λ x. Counted x.0 x.1) index_count
  listed rows.BrTable = seen (λ x. LabelTable x.0 x.1) label_table
  listed rows.Indirect = seen Indirect indirect
  listed (rows.OptionalIndex s) = seen Optional optional_index
  listed (rows.Copy s) = seen OptionalTwo optional_indices
  listed (rows.Init s t) = seen (λ x. OptionalThen x.0 x.1) one_or_two
  listed rows.Heap = seen Heap heap_type
  listed rows.Ref = seen Ref ref_type
  listed rows.RefNull = seen Ref ref_type
  listed rows.Cast = seen Cast cast
  listed rows.I32 = seen Integer (signed_literal 32)
  listed rows.I64 = seen Integer (signed_literal 64)
  listed rows.F32 = seen Float float_literal
  listed rows.F64 = seen Float float_literal
  listed rows.V128 = seen Lanes vector
  listed rows.Results = seen Types select_types
  listed rows.Lane = seen Lane lane
  listed rows.Shuffle = seen Shuffle shuffle
  listed (rows.Mem n) = seen Memory (mem_arg n)
  listed (rows.MemLane n) = seen (λ x. MemoryLane x.0 x.1) (mem_arg_lane n)
  listed rows.Fence = seen Fence optional_ordering

  -- the same behind an ordering, where it is an index or two
  abbrev pub ordered : OperandSyntax → Syntax N P (Operands N P)
  ordered (rows.Index s) = seen (λ x. Ordered x.0 (One x.1)) (behind.ordered index)
  ordered (rows.Indices s t) = seen (λ x. Ordered x.0 (Two x.1.0 x.1.1)) (behind.ordered two_indices)
  ordered (rows.OptionalIndex s) = seen (λ x. Ordered x.0 (Optional x.1)) (behind.ordered optional_index)
  ordered _ = seen (λ x. Ordered x.0 NoOperands) (behind.ordered nothing)

  abbrev pub operands : TextOperands → Syntax N P (Operands N P)
  operands (text.Listed o) = listed o
  operands (text.Ordered o) = ordered o
  operands text.SelectTypes = seen Types select_types
  operands text.AnyRef = seen Ref ref_type
  operands text.Resume = seen (λ x. Resume x.0 x.1) resume
  operands text.ResumeThrow = seen (λ x. ResumeThrow x.0 x.1.0 x.1.1) resume_throw

-- what the operands of all rows begin with
abbrev pub row_starts : List Test
row_starts = join heap_starts (join ref_starts (join use_starts (join catch_starts (join lane_starts (join float_starts (join shape_starts handle_starts))))))

-- what may not follow them
abbrev pub row_stops : List Test
row_stops = join (faults use_starts) (join index_starts (join use_starts (join lane_starts handle_starts)))

-- what would go on with operands, beyond the stops of all: clauses go on with those of try_table
abbrev pub own_operands : {N P : Type 0} → Operands N P → List Test
own_operands (TryTable t) = catch_starts
own_operands _ = []

-- what an instruction begins with
abbrev pub instruction_starts : List Test
instruction_starts = On false AWord (OneOf (map (λ t. t.mnemonic) text_table) []) ∷ []

module _ {N P : Type 0} where
  abbrev pub own : Instruction N P → List Test
  own i = own_operands i.operands

  abbrev pub mnemonic : Syntax N P (TextEntry × P)
  mnemonic = among (λ t. t.mnemonic) text_table []

  abbrev pub as_instruction : (TextEntry × P) × Operands N P → Instruction N P
  as_instruction i = record { head = head i.0.0 (choose_second i.1); operands = i.1 }

  -- INSTRUCTIONS: a mnemonic, and the operands of its row
  unfoldable pub instruction : Syntax N P (Instruction N P)
  instruction = seen as_instruction (next mnemonic (λ t. operands t.0.operands) row_starts true (join row_stops catch_starts))
