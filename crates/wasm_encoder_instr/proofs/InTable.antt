-- Each instruction's opcode is that of an entry of the table with its mnemonic, with operands of its kind; tests and casts have
-- the entries of their nullability.
use Rattle.std.proofs.Common.{refl}
use Rattle.wasm_encoder_base.specs.Leb.{uleb, leb, digits}
use Rattle.wasm_encoder_base.specs.Table.{table, entry_at}
use Rattle.wasm_encoder_base.specs.Instr.{AreListed, kind_of}
use Rattle.wasm_encoder_opcodes.proofs.InTable.{compare_listed, numeric_listed, convert_listed, vector_listed, vector_narrow_listed, vector_wide_listed, vector_float_listed, access_listed, atomic_listed, atomic_rmw_listed}
use Rattle.wasm_encoder_instr.specs.Bulk.{bulk_mnemonic, bulk_view}
use Rattle.wasm_encoder_instr.specs.declared.bulk.BulkOp.TheVariants as bulk_ops
use Rattle.wasm_encoder_instr.specs.Gc.{gc_mnemonic, gc_view}
use Rattle.wasm_encoder_instr.specs.declared.gc.GcOp.TheVariants as gc_ops
use Rattle.wasm_encoder_instr.specs.VectorArg.{vector_arg_mnemonic, vector_arg_view}
use Rattle.wasm_encoder_instr.specs.declared.vector_arg.VectorArgOp.TheVariants as vector_arg_ops
use Rattle.wasm_encoder_instr.specs.Instruction.{instr_mnemonic, instr_view}
use Rattle.wasm_encoder_instr.specs.Laws.{NullabilityListed}
use Rattle.wasm_encoder_instr.specs.declared.instruction.Instruction.TheVariants as variants

bulk_listed : AreListed bulk_mnemonic (λ op. (bulk_view op).opcode) (λ op. kind_of (bulk_view op).operands)
unfolding entry_at table uleb leb digits
bulk_listed (bulk_ops.DataDrop index) = record { named = refl; operands = refl }
bulk_listed _ = record { named = refl; operands = refl }

gc_listed : AreListed gc_mnemonic (λ op. (gc_view op).opcode) (λ op. kind_of (gc_view op).operands)
unfolding entry_at table uleb leb digits
gc_listed gc_ops.RefEq = record { named = refl; operands = refl }
gc_listed _ = record { named = refl; operands = refl }

vector_arg_listed : AreListed vector_arg_mnemonic (λ op. (vector_arg_view op).opcode) (λ op. kind_of (vector_arg_view op).operands)
unfolding entry_at table uleb leb digits
vector_arg_listed (vector_arg_ops.V128Const value) = record { named = refl; operands = refl }
vector_arg_listed _ = record { named = refl; operands = refl }

pub all_listed : AreListed instr_mnemonic (λ i. (instr_view i).opcode) (λ i. kind_of (instr_view i).operands)
unfolding entry_at table uleb leb digits
all_listed (variants.Compare op) = compare_listed op
all_listed (variants.Numeric op) = numeric_listed op
all_listed (variants.Convert op) = convert_listed op
all_listed (variants.Vector op) = vector_listed op
all_listed (variants.VectorNarrow op) = vector_narrow_listed op
all_listed (variants.VectorWide op) = vector_wide_listed op
all_listed (variants.VectorFloat op) = vector_float_listed op
all_listed (variants.Access op memarg) = access_listed op
all_listed (variants.Atomic op memarg) = atomic_listed op
all_listed (variants.AtomicRmw op memarg) = atomic_rmw_listed op
all_listed (variants.Bulk op) = bulk_listed op
all_listed (variants.Gc op) = gc_listed op
all_listed (variants.VectorArg op) = vector_arg_listed op
all_listed _ = record { named = refl; operands = refl }

pub nullability_listed : NullabilityListed
unfolding entry_at table uleb leb digits
nullability_listed = record { test_non_null = λ h. refl; test_nullable = λ h. refl; cast_non_null = λ h. refl; cast_nullable = λ h. refl }
