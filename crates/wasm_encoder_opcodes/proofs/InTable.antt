-- Each opcode is that of an entry of the table with the mnemonic, and with operands of its kind.
use Rattle.std.proofs.Common.{refl}
use Rattle.wasm_encoder_base.specs.Leb.{uleb, leb, digits}
use Rattle.wasm_encoder_base.specs.Table.{table, entry_at}
use Rattle.wasm_encoder_base.specs.Instr.{Nothing, OfMemory, AreListed}
use Rattle.wasm_encoder_opcodes.specs.Compare.{compare_mnemonic, compare_opcode}
use Rattle.wasm_encoder_opcodes.specs.declared.compare.CompareOp.TheVariants.{I32Eqz}
use Rattle.wasm_encoder_opcodes.specs.Numeric.{numeric_mnemonic, numeric_opcode}
use Rattle.wasm_encoder_opcodes.specs.declared.numeric.NumericOp.TheVariants.{I32Clz}
use Rattle.wasm_encoder_opcodes.specs.Convert.{convert_mnemonic, convert_opcode}
use Rattle.wasm_encoder_opcodes.specs.declared.convert.ConvertOp.TheVariants.{I32WrapI64}
use Rattle.wasm_encoder_opcodes.specs.Vector.{vector_mnemonic, vector_opcode}
use Rattle.wasm_encoder_opcodes.specs.declared.vector.VectorOp.TheVariants.{I8x16Swizzle}
use Rattle.wasm_encoder_opcodes.specs.VectorNarrow.{vector_narrow_mnemonic, vector_narrow_opcode}
use Rattle.wasm_encoder_opcodes.specs.declared.vector_narrow.VectorNarrowOp.TheVariants.{I8x16Abs}
use Rattle.wasm_encoder_opcodes.specs.VectorWide.{vector_wide_mnemonic, vector_wide_opcode}
use Rattle.wasm_encoder_opcodes.specs.declared.vector_wide.VectorWideOp.TheVariants.{I32x4Abs}
use Rattle.wasm_encoder_opcodes.specs.VectorFloat.{vector_float_mnemonic, vector_float_opcode}
use Rattle.wasm_encoder_opcodes.specs.declared.vector_float.VectorFloatOp.TheVariants.{F32x4Abs}
use Rattle.wasm_encoder_opcodes.specs.Access.{access_mnemonic, access_opcode}
use Rattle.wasm_encoder_opcodes.specs.declared.access.AccessOp.TheVariants.{I32Load}
use Rattle.wasm_encoder_opcodes.specs.Atomic.{atomic_mnemonic, atomic_opcode}
use Rattle.wasm_encoder_opcodes.specs.declared.atomic.AtomicOp.TheVariants.{MemoryAtomicNotify}
use Rattle.wasm_encoder_opcodes.specs.AtomicRmw.{atomic_rmw_mnemonic, atomic_rmw_opcode}
use Rattle.wasm_encoder_opcodes.specs.declared.atomic_rmw.AtomicRmwOp.TheVariants.{I32AtomicRmwAdd}

pub compare_listed : AreListed compare_mnemonic compare_opcode (λ _. Nothing)
unfolding entry_at table uleb leb digits
compare_listed I32Eqz = record { named = refl; operands = refl }
compare_listed _ = record { named = refl; operands = refl }

pub numeric_listed : AreListed numeric_mnemonic numeric_opcode (λ _. Nothing)
unfolding entry_at table uleb leb digits
numeric_listed I32Clz = record { named = refl; operands = refl }
numeric_listed _ = record { named = refl; operands = refl }

pub convert_listed : AreListed convert_mnemonic convert_opcode (λ _. Nothing)
unfolding entry_at table uleb leb digits
convert_listed I32WrapI64 = record { named = refl; operands = refl }
convert_listed _ = record { named = refl; operands = refl }

pub vector_listed : AreListed vector_mnemonic vector_opcode (λ _. Nothing)
unfolding entry_at table uleb leb digits
vector_listed I8x16Swizzle = record { named = refl; operands = refl }
vector_listed _ = record { named = refl; operands = refl }

pub vector_narrow_listed : AreListed vector_narrow_mnemonic vector_narrow_opcode (λ _. Nothing)
unfolding entry_at table uleb leb digits
vector_narrow_listed I8x16Abs = record { named = refl; operands = refl }
vector_narrow_listed _ = record { named = refl; operands = refl }

pub vector_wide_listed : AreListed vector_wide_mnemonic vector_wide_opcode (λ _. Nothing)
unfolding entry_at table uleb leb digits
vector_wide_listed I32x4Abs = record { named = refl; operands = refl }
vector_wide_listed _ = record { named = refl; operands = refl }

pub vector_float_listed : AreListed vector_float_mnemonic vector_float_opcode (λ _. Nothing)
unfolding entry_at table uleb leb digits
vector_float_listed F32x4Abs = record { named = refl; operands = refl }
vector_float_listed _ = record { named = refl; operands = refl }

pub access_listed : AreListed access_mnemonic access_opcode (λ _. OfMemory)
unfolding entry_at table uleb leb digits
access_listed I32Load = record { named = refl; operands = refl }
access_listed _ = record { named = refl; operands = refl }

pub atomic_listed : AreListed atomic_mnemonic atomic_opcode (λ _. OfMemory)
unfolding entry_at table uleb leb digits
atomic_listed MemoryAtomicNotify = record { named = refl; operands = refl }
atomic_listed _ = record { named = refl; operands = refl }

pub atomic_rmw_listed : AreListed atomic_rmw_mnemonic atomic_rmw_opcode (λ _. OfMemory)
unfolding entry_at table uleb leb digits
atomic_rmw_listed I32AtomicRmwAdd = record { named = refl; operands = refl }
atomic_rmw_listed _ = record { named = refl; operands = refl }
