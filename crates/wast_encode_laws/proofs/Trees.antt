-- In the trees of the code's fields, indices alone stand behind orderings.
use Rattle.std.proofs.Common.{◌≡◌, ℕ, Bool, true, List, [], ◌∷◌, map, Option, Some, None, refl}
use Rattle.std.specs.Prelude.{option_map, option_to_list}
use Rattle.std.specs.List.{list_all}
use Rattle.std.specs.Cmp.Derive.{both_true}
use Rattle.wast_grammar.specs.Tokens.{Name}
use Rattle.wast_signatures.specs.declared.signature.FunctionType.{FunctionType}
use Rattle.wast_signatures.specs.declared.type_use.TypeUse.{TypeUse}
use Rattle.wast_imports.specs.declared.item.TagType.{TagType}
use Rattle.wast_value_types.specs.declared.global_type.GlobalType.{GlobalType}
use Rattle.wast_core_instr.specs.InstructionTree as spec
use Rattle.wast_core_instr.specs.InstructionViews.{bulk_operands, gc_operands, vector_arg_operands, proposal_operands, instruction_operands, instruction_tree}
use Rattle.wast_core_instr.specs.ExpressionViews.{expression_tree}
use Rattle.wast_core_instr.specs.declared.instruction.Instruction.{Instruction}
use Rattle.wast_core_instr.specs.declared.instruction.Instruction.TheVariants as instructions
use Rattle.wast_core_instr.specs.declared.bulk.BulkOp.{BulkOp}
use Rattle.wast_core_instr.specs.declared.bulk.BulkOp.TheVariants as bulks
use Rattle.wast_core_instr.specs.declared.gc.GcOp.{GcOp}
use Rattle.wast_core_instr.specs.declared.gc.GcOp.TheVariants as gcs
use Rattle.wast_core_instr.specs.declared.vector_arg.VectorArgOp.{VectorArgOp}
use Rattle.wast_core_instr.specs.declared.vector_arg.VectorArgOp.TheVariants as vector_args
use Rattle.wast_core_instr.specs.declared.proposal.ProposalOp.{ProposalOp}
use Rattle.wast_core_instr.specs.declared.proposal.ProposalOp.TheVariants as proposals
use Rattle.wast_core_instr.specs.declared.expression.Expression.{Expression}
use Rattle.wast_module_fields.specs.FuncViews.{defined_tag, defined_global, defined_func}
use Rattle.wast_module_fields.specs.MemoryViews.{defined_memory, mode_tree}
use Rattle.wast_module_fields.specs.ElemViews.{elements_tree, defined_table}
use Rattle.wast_module_fields.specs.ElemViews as elems
use Rattle.wast_module_fields.specs.FuncKind.{FuncKind}
use Rattle.wast_module_fields.specs.FuncKind.TheVariants as funcs
use Rattle.wast_module_fields.specs.GlobalKind.{GlobalKind}
use Rattle.wast_module_fields.specs.GlobalKind.TheVariants as globals
use Rattle.wast_module_fields.specs.TagKind.{TagKind}
use Rattle.wast_module_fields.specs.TagKind.TheVariants as tags
use Rattle.wast_module_fields.specs.MemoryKind.{MemoryKind}
use Rattle.wast_module_fields.specs.MemoryKind.TheVariants as memories
use Rattle.wast_module_fields.specs.TableKind.{TableKind}
use Rattle.wast_module_fields.specs.TableKind.TheVariants as tables
use Rattle.wast_module_fields.specs.DataKind.{DataKind}
use Rattle.wast_module_fields.specs.DataKind.TheVariants as data_modes
use Rattle.wast_module_fields.specs.ElemKind.{ElemKind}
use Rattle.wast_module_fields.specs.ElemKind.TheVariants as elem_modes
use Rattle.wast_module_fields.specs.ElemPayload.{ElemPayload}
use Rattle.wast_module_fields.specs.ElemPayload.TheVariants as payloads
use Rattle.wast_module_fields.specs.ModuleFieldViews.{field_tree}
use Rattle.wast_module_fields.specs.declared.field.ModuleField.{ModuleField}
use Rattle.wast_module_fields.specs.declared.field.ModuleField.TheVariants as fields
use Rattle.wast_resolve_laws.proofs.Taking.{both}
use Rattle.wast_encode_laws.specs.Orderings.{is_ordered, all_instrs, elements_instrs, defined_instrs, elem_mode_instrs, data_mode_instrs, field_instrs, are_ordered}

-- INSTRUCTIONS
bulk_ordered : (op : BulkOp) → is_ordered (bulk_operands op) ≡ true
bulk_ordered (bulks.DataDrop i) = refl
bulk_ordered _ = refl

gc_ordered : (op : GcOp) → is_ordered (gc_operands op) ≡ true
gc_ordered gcs.RefEq = refl
gc_ordered _ = refl

vector_ordered : (op : VectorArgOp) → is_ordered (vector_arg_operands op) ≡ true
vector_ordered (vector_args.V128Load memarg) = refl
vector_ordered _ = refl

proposal_ordered : (op : ProposalOp) → is_ordered (proposal_operands op) ≡ true
proposal_ordered proposals.Pause = refl
proposal_ordered _ = refl

instruction_ordered : (i : Instruction) → is_ordered (instruction_operands i) ≡ true
instruction_ordered (instructions.Bulk op) = bulk_ordered op
instruction_ordered (instructions.Gc op) = gc_ordered op
instruction_ordered (instructions.VectorArg op) = vector_ordered op
instruction_ordered (instructions.Proposal op) = proposal_ordered op.value
instruction_ordered _ = refl

abbrev own : spec.Instruction Name ℕ → Bool
own i = is_ordered i.operands

instrs_ordered : (is : List Instruction) → list_all own (map instruction_tree is) ≡ true
instrs_ordered [] = refl
instrs_ordered (i ∷ is) = both_true (instruction_ordered i) (instrs_ordered is)

expressions_ordered : (es : List Expression) → list_all own (all_instrs (map expression_tree es)) ≡ true
expressions_ordered [] = refl
expressions_ordered (e ∷ es) = both own (map instruction_tree e.instrs.items) (all_instrs (map expression_tree es)) (instrs_ordered e.instrs.items) (expressions_ordered es)

init_ordered : (o : Option Expression) → list_all own (all_instrs (option_to_list (option_map expression_tree o))) ≡ true
init_ordered None = refl
init_ordered (Some e) = expressions_ordered (e ∷ [])

-- FIELDS
func_ordered : (k : FuncKind) (ty : TypeUse FunctionType) → list_all own (defined_instrs (defined_func k ty)) ≡ true
func_ordered (funcs.Import i is_exact) ty = refl
func_ordered (funcs.Inline locals body) ty = instrs_ordered body.instrs.items

global_ordered : (ty : GlobalType) (k : GlobalKind) → list_all own (defined_instrs (defined_global ty k)) ≡ true
global_ordered ty (globals.Import i) = refl
global_ordered ty (globals.Inline init) = instrs_ordered init.instrs.items

tag_ordered : (k : TagKind) (ty : TagType) → list_all own (defined_instrs (defined_tag k ty)) ≡ true
tag_ordered (tags.Import i) ty = refl
tag_ordered tags.Inline ty = refl

memory_ordered : (k : MemoryKind) → list_all own (defined_instrs (defined_memory k)) ≡ true
memory_ordered (memories.Import i ty) = refl
memory_ordered (memories.Normal ty) = refl
memory_ordered (memories.Inline is_wide values page) = refl

elements_ordered : (p : ElemPayload) → list_all own (elements_instrs (elements_tree p)) ≡ true
elements_ordered (payloads.Indices indices) = refl
elements_ordered (payloads.Exprs ty exprs) = expressions_ordered exprs.items

table_ordered : (k : TableKind) → list_all own (defined_instrs (defined_table k)) ≡ true
table_ordered (tables.Import i ty) = refl
table_ordered (tables.Normal ty init) = init_ordered init
table_ordered (tables.Inline is_wide elem payload) = elements_ordered payload

elem_mode_ordered : (m : ElemKind) → list_all own (elem_mode_instrs (elems.mode_tree m)) ≡ true
elem_mode_ordered elem_modes.Passive = refl
elem_mode_ordered elem_modes.Declared = refl
elem_mode_ordered (elem_modes.Active table offset) = instrs_ordered offset.instrs.items

data_mode_ordered : (m : DataKind) → list_all own (data_mode_instrs (mode_tree m)) ≡ true
data_mode_ordered data_modes.Passive = refl
data_mode_ordered (data_modes.Active memory offset) = instrs_ordered offset.instrs.items

field_ordered : (f : ModuleField) → list_all own (field_instrs (field_tree f)) ≡ true
field_ordered (fields.TypeItem t) = refl
field_ordered (fields.Rec r) = refl
field_ordered (fields.Import i) = refl
field_ordered (fields.Func f) = func_ordered f.kind f.ty
field_ordered (fields.Table t) = table_ordered t.kind
field_ordered (fields.Memory m) = memory_ordered m.kind
field_ordered (fields.Global g) = global_ordered g.ty g.kind
field_ordered (fields.Export e) = refl
field_ordered (fields.Start s) = refl
field_ordered (fields.Elem e) = both own (elem_mode_instrs (elems.mode_tree e.kind)) (elements_instrs (elements_tree e.payload)) (elem_mode_ordered e.kind) (elements_ordered e.payload)
field_ordered (fields.Data d) = data_mode_ordered d.kind
field_ordered (fields.Tag t) = tag_ordered t.kind t.ty
field_ordered (fields.Custom c) = refl

pub trees_ordered : (fs : List ModuleField) → are_ordered (map field_tree fs) ≡ true
trees_ordered [] = refl
trees_ordered (f ∷ fs) = both_true (field_ordered f) (trees_ordered fs)
