-- The law that the crate's law function proves.
use Rattle.std.specs.Prelude.{◌≡◌, Some}
use Rattle.std.specs.Option.{option_map}
use Rattle.wasm_encoder_base.specs.Instr.{AreListed, kind_of}
use Rattle.wasm_encoder_base.specs.Table.{OperandSyntax, Ref, RefNull, entry_at}
use Rattle.wasm_encoder_base.specs.declared.types.HeapType.{HeapType}
use Rattle.wasm_encoder_instr.specs.Gc.{gc_view}
use Rattle.wasm_encoder_instr.specs.declared.gc.GcOp.{GcOp}
use Rattle.wasm_encoder_instr.specs.declared.gc.GcOp.TheVariants.{RefTestNonNull, RefTestNullable, RefCastNonNull, RefCastNullable}
use Rattle.wasm_encoder_instr.specs.Instruction.{instr_mnemonic, instr_view}

-- Each instruction's opcode is that of a table's entry with its mnemonic, and there the operands are of its kind.
abbrev pub AllListed : Type 0
AllListed = AreListed instr_mnemonic (λ i. (instr_view i).opcode) (λ i. kind_of (instr_view i).operands)

-- The table's entry of an instruction's opcode has these operands in the text, whatever the heap type.
abbrev pub IsWritten : (HeapType → GcOp) → OperandSyntax → Type 0
IsWritten op syntax = (heap_type : HeapType) → option_map (λ e. e.operands) (entry_at (gc_view (op heap_type)).opcode) ≡ Some syntax

-- Tests and casts to references without null have the operand `(ref ht)` in the table, those to references with null
-- `(ref null ht)` (WebAssembly 3.0, 5.4 and 6.5).
pub record NullabilityListed : Type 0 where
  pub test_non_null : IsWritten RefTestNonNull Ref
  pub test_nullable : IsWritten RefTestNullable RefNull
  pub cast_non_null : IsWritten RefCastNonNull Ref
  pub cast_nullable : IsWritten RefCastNullable RefNull
