-- The entry that the table has for an instruction's mnemonic has its opcode; where it has two, the one that is chosen.
use Rattle.std.proofs.Common.{◌≡◌, ℕ, Bool, true, false, List, [], Option, Some, None, refl, ap}
use Rattle.wasm_encoder_base.specs.Leb.{uleb, leb, digits}
use Rattle.wasm_encoder_base.specs.Table.{table, entries_of}
use Rattle.wasm_encoder_opcodes.specs.Compare.{compare_mnemonic, compare_opcode}
use Rattle.wasm_encoder_opcodes.specs.declared.compare.CompareOp.{CompareOp}
use Rattle.wasm_encoder_opcodes.specs.declared.compare.CompareOp.TheVariants.{I32Eqz}
use Rattle.wasm_encoder_opcodes.specs.Numeric.{numeric_mnemonic, numeric_opcode}
use Rattle.wasm_encoder_opcodes.specs.declared.numeric.NumericOp.{NumericOp}
use Rattle.wasm_encoder_opcodes.specs.declared.numeric.NumericOp.TheVariants.{I32Clz}
use Rattle.wasm_encoder_opcodes.specs.Convert.{convert_mnemonic, convert_opcode}
use Rattle.wasm_encoder_opcodes.specs.declared.convert.ConvertOp.{ConvertOp}
use Rattle.wasm_encoder_opcodes.specs.declared.convert.ConvertOp.TheVariants.{I32WrapI64}
use Rattle.wasm_encoder_opcodes.specs.Vector.{vector_mnemonic, vector_opcode}
use Rattle.wasm_encoder_opcodes.specs.declared.vector.VectorOp.{VectorOp}
use Rattle.wasm_encoder_opcodes.specs.declared.vector.VectorOp.TheVariants.{I8x16Swizzle}
use Rattle.wasm_encoder_opcodes.specs.VectorNarrow.{vector_narrow_mnemonic, vector_narrow_opcode}
use Rattle.wasm_encoder_opcodes.specs.declared.vector_narrow.VectorNarrowOp.{VectorNarrowOp}
use Rattle.wasm_encoder_opcodes.specs.declared.vector_narrow.VectorNarrowOp.TheVariants.{I8x16Abs}
use Rattle.wasm_encoder_opcodes.specs.VectorWide.{vector_wide_mnemonic, vector_wide_opcode}
use Rattle.wasm_encoder_opcodes.specs.declared.vector_wide.VectorWideOp.{VectorWideOp}
use Rattle.wasm_encoder_opcodes.specs.declared.vector_wide.VectorWideOp.TheVariants.{I32x4Abs}
use Rattle.wasm_encoder_opcodes.specs.VectorFloat.{vector_float_mnemonic, vector_float_opcode}
use Rattle.wasm_encoder_opcodes.specs.declared.vector_float.VectorFloatOp.{VectorFloatOp}
use Rattle.wasm_encoder_opcodes.specs.declared.vector_float.VectorFloatOp.TheVariants.{F32x4Abs}
use Rattle.wasm_encoder_opcodes.specs.Access.{access_mnemonic, access_opcode}
use Rattle.wasm_encoder_opcodes.specs.declared.access.AccessOp.{AccessOp}
use Rattle.wasm_encoder_opcodes.specs.declared.access.AccessOp.TheVariants.{I32Load}
use Rattle.wasm_encoder_opcodes.specs.Atomic.{atomic_mnemonic, atomic_opcode}
use Rattle.wasm_encoder_opcodes.specs.declared.atomic.AtomicOp.{AtomicOp}
use Rattle.wasm_encoder_opcodes.specs.declared.atomic.AtomicOp.TheVariants.{MemoryAtomicNotify}
use Rattle.wasm_encoder_opcodes.specs.AtomicRmw.{atomic_rmw_mnemonic, atomic_rmw_opcode}
use Rattle.wasm_encoder_opcodes.specs.declared.atomic_rmw.AtomicRmwOp.{AtomicRmwOp}
use Rattle.wasm_encoder_opcodes.specs.declared.atomic_rmw.AtomicRmwOp.TheVariants.{I32AtomicRmwAdd}
use Rattle.wasm_encoder_instr.specs.Bulk.{bulk_mnemonic, bulk_view}
use Rattle.wasm_encoder_instr.specs.declared.bulk.BulkOp.{BulkOp}
use Rattle.wasm_encoder_instr.specs.declared.bulk.BulkOp.TheVariants as bulk_ops
use Rattle.wasm_encoder_instr.specs.Gc.{gc_mnemonic, gc_view}
use Rattle.wasm_encoder_instr.specs.declared.gc.GcOp.{GcOp}
use Rattle.wasm_encoder_instr.specs.declared.gc.GcOp.TheVariants as gc_ops
use Rattle.wasm_encoder_instr.specs.VectorArg.{vector_arg_mnemonic, vector_arg_view}
use Rattle.wasm_encoder_instr.specs.declared.vector_arg.VectorArgOp.{VectorArgOp}
use Rattle.wasm_encoder_instr.specs.declared.vector_arg.VectorArgOp.TheVariants as vector_arg_ops
use Rattle.wasm_encoder_instr.specs.Instruction.{instr_mnemonic, instr_view}
use Rattle.wasm_encoder_instr.specs.declared.instruction.Instruction.{Instruction}
use Rattle.wasm_encoder_instr.specs.declared.instruction.Instruction.TheVariants as variants
use Rattle.wast_mnemonics.specs.Heads.{Head, Listed, Unlisted, chosen}
use Rattle.wast_mnemonics.specs.Mnemonics.{word_mnemonic}
use Rattle.wast_core_instr.specs.WordViews.{proposal_word}
use Rattle.wast_core_instr.specs.declared.proposal.ProposalOp.{ProposalOp}
use Rattle.wast_core_instr.specs.declared.proposal.ProposalOp.TheVariants as proposals
use Rattle.wast_conversions.specs.Instructions.{opcode_of}
use Rattle.wast_conversions.specs.Rows.{GcChosen, Chosen}

-- mnemonic and opcode of the table's entry, where it is one
abbrev pub row_of : Head → Option (List ℕ × List ℕ)
row_of (Listed e) = Some (e.mnemonic, e.opcode)
row_of (Unlisted mnemonic) = None

-- the entry of a mnemonic, the second or the first where there are two, has the opcode
abbrev pub Found : (mnemonic : List ℕ) → (second : Bool) → (opcode : List ℕ) → Type 0
Found mnemonic second opcode = row_of (chosen mnemonic (entries_of mnemonic table) second) ≡ Some (mnemonic, opcode)

pub compare_found : (op : CompareOp) (second : Bool) → Found (compare_mnemonic op) second (compare_opcode op)
unfolding table uleb leb digits
compare_found I32Eqz second = refl
compare_found _ second = refl

pub numeric_found : (op : NumericOp) (second : Bool) → Found (numeric_mnemonic op) second (numeric_opcode op)
unfolding table uleb leb digits
numeric_found I32Clz second = refl
numeric_found _ second = refl

pub convert_found : (op : ConvertOp) (second : Bool) → Found (convert_mnemonic op) second (convert_opcode op)
unfolding table uleb leb digits
convert_found I32WrapI64 second = refl
convert_found _ second = refl

pub vector_found : (op : VectorOp) (second : Bool) → Found (vector_mnemonic op) second (vector_opcode op)
unfolding table uleb leb digits
vector_found I8x16Swizzle second = refl
vector_found _ second = refl

pub vector_narrow_found : (op : VectorNarrowOp) (second : Bool) → Found (vector_narrow_mnemonic op) second (vector_narrow_opcode op)
unfolding table uleb leb digits
vector_narrow_found I8x16Abs second = refl
vector_narrow_found _ second = refl

pub vector_wide_found : (op : VectorWideOp) (second : Bool) → Found (vector_wide_mnemonic op) second (vector_wide_opcode op)
unfolding table uleb leb digits
vector_wide_found I32x4Abs second = refl
vector_wide_found _ second = refl

pub vector_float_found : (op : VectorFloatOp) (second : Bool) → Found (vector_float_mnemonic op) second (vector_float_opcode op)
unfolding table uleb leb digits
vector_float_found F32x4Abs second = refl
vector_float_found _ second = refl

pub access_found : (op : AccessOp) (second : Bool) → Found (access_mnemonic op) second (access_opcode op)
unfolding table uleb leb digits
access_found I32Load second = refl
access_found _ second = refl

pub atomic_found : (op : AtomicOp) (second : Bool) → Found (atomic_mnemonic op) second (atomic_opcode op)
unfolding table uleb leb digits
atomic_found MemoryAtomicNotify second = refl
atomic_found _ second = refl

pub atomic_rmw_found : (op : AtomicRmwOp) (second : Bool) → Found (atomic_rmw_mnemonic op) second (atomic_rmw_opcode op)
unfolding table uleb leb digits
atomic_rmw_found I32AtomicRmwAdd second = refl
atomic_rmw_found _ second = refl

bulk_found : (op : BulkOp) (second : Bool) → Found (bulk_mnemonic op) second (bulk_view op).opcode
unfolding table uleb leb digits
bulk_found (bulk_ops.DataDrop index) second = refl
bulk_found _ second = refl

vector_arg_found : (op : VectorArgOp) (second : Bool) → Found (vector_arg_mnemonic op) second (vector_arg_view op).opcode
unfolding table uleb leb digits
vector_arg_found (vector_arg_ops.V128Const value) second = refl
vector_arg_found _ second = refl

gc_found : (op : GcOp) (second : Bool) → GcChosen op second → Found (gc_mnemonic op) second (gc_view op).opcode
unfolding table uleb leb digits
gc_found (gc_ops.RefTestNonNull heap_type) false c = refl
gc_found (gc_ops.RefTestNonNull heap_type) true c = cc
gc_found (gc_ops.RefTestNullable heap_type) true c = refl
gc_found (gc_ops.RefTestNullable heap_type) false c = cc
gc_found (gc_ops.RefCastNonNull heap_type) false c = refl
gc_found (gc_ops.RefCastNonNull heap_type) true c = cc
gc_found (gc_ops.RefCastNullable heap_type) true c = refl
gc_found (gc_ops.RefCastNullable heap_type) false c = cc
gc_found _ second c = refl

row_found : (i : Instruction) (second : Bool) → Chosen i second → Found (instr_mnemonic i) second (instr_view i).opcode
unfolding table uleb leb digits
row_found (variants.Compare op) second c = compare_found op second
row_found (variants.Numeric op) second c = numeric_found op second
row_found (variants.Convert op) second c = convert_found op second
row_found (variants.Vector op) second c = vector_found op second
row_found (variants.VectorNarrow op) second c = vector_narrow_found op second
row_found (variants.VectorWide op) second c = vector_wide_found op second
row_found (variants.VectorFloat op) second c = vector_float_found op second
row_found (variants.Access op memarg) second c = access_found op second
row_found (variants.Atomic op memarg) second c = atomic_found op second
row_found (variants.AtomicRmw op memarg) second c = atomic_rmw_found op second
row_found (variants.Bulk op) second c = bulk_found op second
row_found (variants.Gc op) second c = gc_found op second c
row_found (variants.VectorArg op) second c = vector_arg_found op second
row_found variants.Select false c = refl
row_found variants.Select true c = cc
row_found (variants.TypedSelect val_type) true c = refl
row_found (variants.TypedSelect val_type) false c = cc
row_found (variants.TypedSelectMulti types) true c = refl
row_found (variants.TypedSelectMulti types) false c = cc
row_found _ second c = refl

abbrev opcode_in : Option (List ℕ × List ℕ) → List ℕ
opcode_in (Some row) = row.1
opcode_in None = []

opcode_found : (h : Head) (mnemonic opcode : List ℕ) → row_of h ≡ Some (mnemonic, opcode) → opcode_of h ≡ opcode
opcode_found (Listed e) mnemonic opcode p = ap opcode_in p
opcode_found (Unlisted m) mnemonic opcode p = cc

pub instr_found : (i : Instruction) (second : Bool) → Chosen i second → opcode_of (chosen (instr_mnemonic i) (entries_of (instr_mnemonic i) table) second) ≡ (instr_view i).opcode
instr_found i second c = opcode_found (chosen (instr_mnemonic i) (entries_of (instr_mnemonic i) table) second) (instr_mnemonic i) (instr_view i).opcode (row_found i second c)

-- the table has none for an instruction of a proposal
pub none_found : (op : ProposalOp) → entries_of (word_mnemonic (proposal_word op)) table ≡ []
unfolding table uleb leb digits
none_found proposals.Pause = refl
none_found _ = refl
