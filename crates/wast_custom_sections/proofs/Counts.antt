-- An instruction of fewer than 2^32 bytes has counts that are less.
use Rattle.std.proofs.Common.{ℕ, ◌<◌, ◌≤◌, ◌^◌, Bool, true, false, List, length, arith, flat_map, length-append}
use Rattle.wasm_encoder_base.specs.Bytes.{counted}
use Rattle.wasm_encoder_base.specs.Leb.{uleb}
use Rattle.wasm_encoder_base.specs.Types.{HeapType, Abstract, Concrete, reference_bytes, ValType, I32Type, I64Type, F32Type, F64Type, V128Type, Reference, val_bytes}
use Rattle.wasm_encoder_base.specs.Instr.{Instr, Operands, NoOperands, Index, Pair, Indirect, Init, LabelTable, Block, TryTable, Heap, Cast, ValTypes, I32, I64, F32, F64, V128, Lane, Shuffle, Memory, MemoryLane, Fence, Catch, CatchTag, CatchTagRef, CatchAll, CatchAllRef, block_bytes, catch_bytes, operand_bytes, instr_bytes, counts_fit}
use Rattle.wasm_encoder_instr.specs.declared.instruction.Instruction.{Instruction}
use Rattle.wast_core_instr.specs.InstructionViews.{instruction_tree}
use Rattle.wast_core_instr.specs.declared.instruction.Instruction as tree
use Rattle.wast_conversions.specs.Instructions.{instr_meant}
use Rattle.wast_conversions.specs.Rows.{bytes_meant, FitsMeant}
use Rattle.wast_custom_sections.proofs.Sizes.{uleb_some, count_size}

pub reference_some : (nullable : Bool) (h : HeapType) → 1 ≤ length (reference_bytes nullable h)
reference_some true (Abstract a) = omega arith
reference_some true (Concrete n) = omega arith
reference_some false h = omega arith

pub val_some : (t : ValType) → 1 ≤ length (val_bytes t)
val_some I32Type = omega arith
val_some I64Type = omega arith
val_some F32Type = omega arith
val_some F64Type = omega arith
val_some V128Type = omega arith
val_some (Reference r) = reference_some r.nullable r.heap_type

catch_some : (c : Catch) → 1 ≤ length (catch_bytes c)
catch_some (CatchTag tag label) = omega arith
catch_some (CatchTagRef tag label) = omega arith
catch_some (CatchAll label) = omega arith
catch_some (CatchAllRef label) = omega arith

pub counted_count : {A : Type 0} (f : A → List ℕ) → ((x : A) → 1 ≤ length (f x)) → (xs : List A) → length xs ≤ length (counted f xs)
counted_count f one xs = omega (arith, count_size f one xs, length-append (uleb (length xs)) (flat_map f xs))

operands_fit : (o : Operands) → length (operand_bytes o) < 2 ^ 32 → counts_fit o
operands_fit NoOperands h = tt
operands_fit (Index n) h = tt
operands_fit (Pair first second) h = tt
operands_fit (Indirect table type_index) h = tt
operands_fit (Init target segment) h = tt
operands_fit (LabelTable labels default) h = omega (arith, counted_count uleb uleb_some labels, length-append (counted uleb labels) (uleb default))
operands_fit (Block t) h = tt
operands_fit (TryTable t catches) h = omega (arith, counted_count catch_bytes catch_some catches, length-append (block_bytes t) (counted catch_bytes catches))
operands_fit (Heap t) h = tt
operands_fit (Cast label source target) h = tt
operands_fit (ValTypes types) h = omega (arith, counted_count val_bytes val_some types)
operands_fit (I32 z) h = tt
operands_fit (I64 z) h = tt
operands_fit (F32 bits) h = tt
operands_fit (F64 bits) h = tt
operands_fit (V128 bits) h = tt
operands_fit (Lane n) h = tt
operands_fit (Shuffle lanes) h = tt
operands_fit (Memory m) h = tt
operands_fit (MemoryLane m lane) h = tt
operands_fit Fence h = tt

pub instr_fits : (i : Instr) → length (instr_bytes i) < 2 ^ 32 → counts_fit i.operands
instr_fits i h = let less : length (operand_bytes i.operands) < 2 ^ 32 = omega (arith, length-append i.opcode (operand_bytes i.operands)) in operands_fit i.operands less

pub meant_fits : (i : tree.Instruction) → length (bytes_meant i) < 2 ^ 32 → FitsMeant i
unfolding bytes_meant FitsMeant
meant_fits i h = instr_fits (instr_meant (instruction_tree i)) h
