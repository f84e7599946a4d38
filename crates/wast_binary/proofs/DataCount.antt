-- The instructions that need the count of data segments, by the table's opcodes.
use Rattle.std.proofs.Common.{◌≡◌, ℕ, Bool, true, false, ◌||◌, List, [], ◌∷◌, ◌++◌, map, refl, sym, ap, ◌∙◌}
use Rattle.std.specs.Global.{Vec}
use Rattle.std.specs.List.{flat_map, list_any}
use Rattle.std.proofs.lemmas.List.Folds.{list_any-append}
use Rattle.std.proofs.lemmas.List.Concat.{flat_map-append}
use Rattle.wasm_encoder_base.specs.Leb.{uleb, leb, digits}
use Rattle.wasm_encoder_base.specs.Table.{table, entries_of, same_text}
use Rattle.wasm_encoder_opcodes.specs.Compare.{compare_mnemonic}
use Rattle.wasm_encoder_opcodes.specs.declared.compare.CompareOp.{CompareOp}
use Rattle.wasm_encoder_opcodes.specs.declared.compare.CompareOp.TheVariants.{I32Eqz}
use Rattle.wasm_encoder_opcodes.specs.Numeric.{numeric_mnemonic}
use Rattle.wasm_encoder_opcodes.specs.declared.numeric.NumericOp.{NumericOp}
use Rattle.wasm_encoder_opcodes.specs.declared.numeric.NumericOp.TheVariants.{I32Clz}
use Rattle.wasm_encoder_opcodes.specs.Convert.{convert_mnemonic}
use Rattle.wasm_encoder_opcodes.specs.declared.convert.ConvertOp.{ConvertOp}
use Rattle.wasm_encoder_opcodes.specs.declared.convert.ConvertOp.TheVariants.{I32WrapI64}
use Rattle.wasm_encoder_opcodes.specs.Vector.{vector_mnemonic}
use Rattle.wasm_encoder_opcodes.specs.declared.vector.VectorOp.{VectorOp}
use Rattle.wasm_encoder_opcodes.specs.declared.vector.VectorOp.TheVariants.{I8x16Swizzle}
use Rattle.wasm_encoder_opcodes.specs.VectorNarrow.{vector_narrow_mnemonic}
use Rattle.wasm_encoder_opcodes.specs.declared.vector_narrow.VectorNarrowOp.{VectorNarrowOp}
use Rattle.wasm_encoder_opcodes.specs.declared.vector_narrow.VectorNarrowOp.TheVariants.{I8x16Abs}
use Rattle.wasm_encoder_opcodes.specs.VectorWide.{vector_wide_mnemonic}
use Rattle.wasm_encoder_opcodes.specs.declared.vector_wide.VectorWideOp.{VectorWideOp}
use Rattle.wasm_encoder_opcodes.specs.declared.vector_wide.VectorWideOp.TheVariants.{I32x4Abs}
use Rattle.wasm_encoder_opcodes.specs.VectorFloat.{vector_float_mnemonic}
use Rattle.wasm_encoder_opcodes.specs.declared.vector_float.VectorFloatOp.{VectorFloatOp}
use Rattle.wasm_encoder_opcodes.specs.declared.vector_float.VectorFloatOp.TheVariants.{F32x4Abs}
use Rattle.wasm_encoder_opcodes.specs.Access.{access_mnemonic}
use Rattle.wasm_encoder_opcodes.specs.declared.access.AccessOp.{AccessOp}
use Rattle.wasm_encoder_opcodes.specs.declared.access.AccessOp.TheVariants.{I32Load}
use Rattle.wasm_encoder_opcodes.specs.Atomic.{atomic_mnemonic}
use Rattle.wasm_encoder_opcodes.specs.declared.atomic.AtomicOp.{AtomicOp}
use Rattle.wasm_encoder_opcodes.specs.declared.atomic.AtomicOp.TheVariants.{MemoryAtomicNotify}
use Rattle.wasm_encoder_opcodes.specs.AtomicRmw.{atomic_rmw_mnemonic}
use Rattle.wasm_encoder_opcodes.specs.declared.atomic_rmw.AtomicRmwOp.{AtomicRmwOp}
use Rattle.wasm_encoder_opcodes.specs.declared.atomic_rmw.AtomicRmwOp.TheVariants.{I32AtomicRmwAdd}
use Rattle.wast_mnemonics.specs.Heads.{chosen}
use Rattle.wast_mnemonics.specs.Mnemonics.{word_mnemonic}
use Rattle.wast_core_instr.specs.InstructionTree.{choose_second}
use Rattle.wast_core_instr.specs.InstructionViews.{instruction_operands, instruction_tree}
use Rattle.wast_core_instr.specs.WordViews.{bulk_word, gc_word, vector_arg_word, proposal_word, instruction_word}
use Rattle.wast_core_instr.specs.declared.bulk.BulkOp.{BulkOp}
use Rattle.wast_core_instr.specs.declared.bulk.BulkOp.TheVariants as bulks
use Rattle.wast_core_instr.specs.declared.gc.GcOp.{GcOp}
use Rattle.wast_core_instr.specs.declared.gc.GcOp.TheVariants as gcs
use Rattle.wast_core_instr.specs.declared.vector_arg.VectorArgOp.{VectorArgOp}
use Rattle.wast_core_instr.specs.declared.vector_arg.VectorArgOp.TheVariants as vector_args
use Rattle.wast_core_instr.specs.declared.proposal.ProposalOp.{ProposalOp}
use Rattle.wast_core_instr.specs.declared.proposal.ProposalOp.TheVariants as proposals
use Rattle.wast_core_instr.specs.declared.instruction.Instruction.{Instruction}
use Rattle.wast_core_instr.specs.declared.instruction.Instruction.TheVariants as instructions
use Rattle.wast_core_instr.specs.declared.expression.Expression.{Expression}
use Rattle.wast_exports.specs.declared.inline.InlineImport.{InlineImport}
use Rattle.wast_module_fields.specs.FieldTree.{Field, Define}
use Rattle.wast_module_fields.specs.FuncViews.{defined_func, func_definition}
use Rattle.wast_module_fields.specs.Func.{Func}
use Rattle.wast_module_fields.specs.FuncKind.TheVariants as funcs
use Rattle.wast_module_fields.specs.Local.{Local}
use Rattle.wasm_layout.specs.Present.{data_opcodes, says_data}
use Rattle.wast_conversions.specs.Instructions.{opcode_of, instr_meant, instrs_meant}
use Rattle.wast_meant.specs.FieldsMeant.{defined_in, functions_of}
use Rattle.wast_binary.specs.DataCount.{bulk_of_data, gc_of_data, is_of_data, field_says_data}

-- the opcode is one of those
abbrev among : List ℕ → Bool
among opcode = list_any (same_text opcode) data_opcodes

abbrev Says : List ℕ → Bool → Bool → Type 0
Says mnemonic second is = is ≡ among (opcode_of (chosen mnemonic (entries_of mnemonic table) second))

compare_says : (op : CompareOp) (second : Bool) → Says (compare_mnemonic op) second false
unfolding table uleb leb digits
compare_says I32Eqz second = refl
compare_says _ second = refl

numeric_says : (op : NumericOp) (second : Bool) → Says (numeric_mnemonic op) second false
unfolding table uleb leb digits
numeric_says I32Clz second = refl
numeric_says _ second = refl

convert_says : (op : ConvertOp) (second : Bool) → Says (convert_mnemonic op) second false
unfolding table uleb leb digits
convert_says I32WrapI64 second = refl
convert_says _ second = refl

vector_says : (op : VectorOp) (second : Bool) → Says (vector_mnemonic op) second false
unfolding table uleb leb digits
vector_says I8x16Swizzle second = refl
vector_says _ second = refl

vector_narrow_says : (op : VectorNarrowOp) (second : Bool) → Says (vector_narrow_mnemonic op) second false
unfolding table uleb leb digits
vector_narrow_says I8x16Abs second = refl
vector_narrow_says _ second = refl

vector_wide_says : (op : VectorWideOp) (second : Bool) → Says (vector_wide_mnemonic op) second false
unfolding table uleb leb digits
vector_wide_says I32x4Abs second = refl
vector_wide_says _ second = refl

vector_float_says : (op : VectorFloatOp) (second : Bool) → Says (vector_float_mnemonic op) second false
unfolding table uleb leb digits
vector_float_says F32x4Abs second = refl
vector_float_says _ second = refl

access_says : (op : AccessOp) (second : Bool) → Says (access_mnemonic op) second false
unfolding table uleb leb digits
access_says I32Load second = refl
access_says _ second = refl

atomic_says : (op : AtomicOp) (second : Bool) → Says (atomic_mnemonic op) second false
unfolding table uleb leb digits
atomic_says MemoryAtomicNotify second = refl
atomic_says _ second = refl

atomic_rmw_says : (op : AtomicRmwOp) (second : Bool) → Says (atomic_rmw_mnemonic op) second false
unfolding table uleb leb digits
atomic_rmw_says I32AtomicRmwAdd second = refl
atomic_rmw_says _ second = refl

bulk_says : (op : BulkOp) (second : Bool) → Says (word_mnemonic (bulk_word op)) second (bulk_of_data op)
unfolding table uleb leb digits
bulk_says (bulks.DataDrop index) second = refl
bulk_says _ second = refl

vector_arg_says : (op : VectorArgOp) (second : Bool) → Says (word_mnemonic (vector_arg_word op)) second false
unfolding table uleb leb digits
vector_arg_says (vector_args.V128Const value) second = refl
vector_arg_says _ second = refl

gc_says : (op : GcOp) (second : Bool) → Says (word_mnemonic (gc_word op)) second (gc_of_data op)
unfolding table uleb leb digits
gc_says (gcs.RefTest test) true = refl
gc_says (gcs.RefTest test) false = refl
gc_says (gcs.RefCast cast) true = refl
gc_says (gcs.RefCast cast) false = refl
gc_says _ second = refl

proposal_says : (op : ProposalOp) (second : Bool) → Says (word_mnemonic (proposal_word op)) second false
unfolding table uleb leb digits
proposal_says proposals.Pause second = refl
proposal_says _ second = refl

instruction_says : (i : Instruction) (second : Bool) → Says (word_mnemonic (instruction_word i)) second (is_of_data i)
unfolding table uleb leb digits
instruction_says (instructions.Compare op) second = compare_says op second
instruction_says (instructions.Numeric op) second = numeric_says op second
instruction_says (instructions.Convert op) second = convert_says op second
instruction_says (instructions.Vector op) second = vector_says op second
instruction_says (instructions.VectorNarrow op) second = vector_narrow_says op second
instruction_says (instructions.VectorWide op) second = vector_wide_says op second
instruction_says (instructions.VectorFloat op) second = vector_float_says op second
instruction_says (instructions.Access op memarg) second = access_says op second
instruction_says (instructions.Atomic op memarg) second = atomic_says op second
instruction_says (instructions.AtomicRmw op memarg) second = atomic_rmw_says op second
instruction_says (instructions.Bulk op) second = bulk_says op second
instruction_says (instructions.Gc op) second = gc_says op second
instruction_says (instructions.VectorArg op) second = vector_arg_says op second
instruction_says (instructions.Proposal op) second = proposal_says op.value second
instruction_says (instructions.Select types) true = refl
instruction_says (instructions.Select types) false = refl
instruction_says _ second = refl

pub instruction_is : (i : Instruction) → is_of_data i ≡ list_any (same_text (instr_meant (instruction_tree i)).opcode) data_opcodes
instruction_is i = instruction_says i (choose_second (instruction_operands i))

pub body_is : (is : List Instruction) → list_any is_of_data is ≡ list_any (λ i. list_any (same_text i.opcode) data_opcodes) (instrs_meant (map instruction_tree is))
body_is [] = refl
body_is (i ∷ is) = λ k. instruction_is i k || body_is is k

-- all fields
module _ {N P : Type 0} where
  apart : (fs : List (Field N P)) → flat_map functions_of (flat_map defined_in fs) ≡ flat_map (λ f. flat_map functions_of (defined_in f)) fs
  apart [] = refl
  apart (f ∷ fs) = flat_map-append functions_of (defined_in f) (flat_map defined_in fs) ∙ ap (λ v. flat_map functions_of (defined_in f) ++ v) (apart fs)

  any_apart : (fs : List (Field N P)) → list_any says_data (flat_map (λ f. flat_map functions_of (defined_in f)) fs) ≡ list_any field_says_data fs
  any_apart [] = refl
  any_apart (f ∷ fs) = list_any-append says_data (flat_map functions_of (defined_in f)) (flat_map (λ f. flat_map functions_of (defined_in f)) fs) ∙ ap (λ b. field_says_data f || b) (any_apart fs)

  pub fields_say : (fs : List (Field N P)) → list_any field_says_data fs ≡ list_any says_data (flat_map functions_of (flat_map defined_in fs))
  fields_say fs = sym (ap (list_any says_data) (apart fs) ∙ any_apart fs)

-- functions of the code
or_none : (b : Bool) → b ≡ (b || false)
or_none true = refl
or_none false = refl

pub says_in_body : (f : Func) (locals : Vec Local) (body : Expression) → f.kind ≡ funcs.Inline locals body → list_any is_of_data body.instrs.items ≡ field_says_data (Define (func_definition f))
says_in_body f locals body e = body_is body.instrs.items ∙ or_none _ ∙ sym (ap (λ k. list_any says_data (functions_of (defined_func k f.ty) ++ [])) e)

pub says_imported : (f : Func) (i : InlineImport) (exact : Bool) → f.kind ≡ funcs.Import i exact → false ≡ field_says_data (Define (func_definition f))
says_imported f i exact e = sym (ap (λ k. list_any says_data (functions_of (defined_func k f.ty) ++ [])) e)
