-- Fields with other indices have the same forms.
use Rattle.std.proofs.Common.{◌≡◌, ℕ, List, [], ◌∷◌, ◌++◌, map, Option, Some, None, codes, refl, ap}
use Rattle.std.specs.Prelude.{◌||◌, option_map}
use Rattle.std.specs.List.{flat_map}
use Rattle.wasm_encoder_base.specs.Table.{OperandSyntax, Types}
use Rattle.wast_parser_core.proofs.WordSets.{some_map}
use Rattle.wast_value_types.specs.ValueTree.{HeapType, Abstract, Concrete, Exact, ValType, Number, Ref, StorageType, Packed, Value}
use Rattle.wast_signatures.specs.TypeTree.{Local, Sig, InnerType, FuncType, StructType, ArrayType, ContType, StructField, TypeItem}
use Rattle.wast_operands.specs.OperandTree.{MemArgTarget}
use Rattle.wast_operands.specs.OperandTree as operand
use Rattle.wast_core_instr.specs.InstructionTree.{Operands, Instruction}
use Rattle.wast_core_instr.specs.InstructionTree as instr
use Rattle.wast_imports.specs.ImportTree.{ExternType, OfFunc, OfExactFunc, OfTable, OfMemory, OfGlobal, OfTag, Item, ImportItems, Single, Group1, Group2}
use Rattle.wast_module_fields.specs.FieldTree.{Expr, Elements, Indices, Expressions, Defined, Imported, Func, Table, TableOf, Memory, MemoryOf, Global, Tag, ElemMode, PassiveElem, DeclaredElem, ActiveElem, DataMode, PassiveData, ActiveData, Field, TypeField, RecField, ImportField, Define, ExportField, StartField, ElemField, DataField, CustomField}
use Rattle.wast_meaning.specs.Mentions.{syntax_of}
use Rattle.wast_meaning.specs.Changed.{Change, Changes, heap_changed, val_changed, storage_changed, field_type_changed, local_changed, sig_changed, inner_changed, type_changed, target_changed, operands_changed, instr_changed, extern_changed, item_changed, imports_changed, instrs_changed, constant_changed, elements_changed, defined_changed, elem_mode_changed, data_mode_changed, field_changed}
use Rattle.wast_meaning.proofs.Settled.{two}
use Rattle.wast_conversions.specs.Covered.{Form, form_if, access_forms, forms_with, heap_forms, val_forms, storage_forms, sig_forms, inner_forms, type_forms, inline_forms, extern_forms, target_forms, select_forms, operand_forms, instr_forms, instrs_forms}
use Rattle.wast_meant.specs.Covered.{data_forms, expr_forms, elements_forms, defined_forms, import_forms, elem_mode_forms, data_mode_forms, field_forms}
use Rattle.wast_encode_laws.proofs.Lists.{each_kept, one_kept}

abbrev pub local_forms : {N P : Type 0} → Local N P → List Form
local_forms l = val_forms l.val_type

module _ {N P : Type 0} (c : Change N P) where
  -- TYPES
  heap_kept : (h : HeapType N P) → heap_forms (heap_changed c h) ≡ heap_forms h
  heap_kept (Abstract shared w) = refl
  heap_kept (Concrete i) = refl
  heap_kept (Exact i) = refl

  val_kept : (t : ValType N P) → val_forms (val_changed c t) ≡ val_forms t
  val_kept (Number t) = refl
  val_kept (Ref r) = heap_kept r.heap_type

  vals_kept : (ts : List (ValType N P)) → flat_map val_forms (map (val_changed c) ts) ≡ flat_map val_forms ts
  vals_kept ts = each_kept val_forms (val_changed c) val_kept ts

  storage_kept : (t : StorageType N P) → storage_forms (storage_changed c t) ≡ storage_forms t
  storage_kept (Packed t) = refl
  storage_kept (Value t) = val_kept t

  locals_kept : (ls : List (Local N P)) → flat_map local_forms (map (local_changed c) ls) ≡ flat_map local_forms ls
  locals_kept ls = each_kept local_forms (local_changed c) (λ l. val_kept l.val_type) ls

  sig_kept : (s : Sig N P) → sig_forms (sig_changed c s) ≡ sig_forms s
  sig_kept s = two (λ a b. a ++ b) (locals_kept s.params) (vals_kept s.results)

  inner_kept : (t : InnerType N P) → inner_forms (inner_changed c t) ≡ inner_forms t
  inner_kept (FuncType s) = sig_kept s
  inner_kept (StructType fs) =
      each_kept (λ (f : StructField N P). storage_forms f.field_type.storage) (λ (f : StructField N P). record { id = f.id; field_type = field_type_changed c f.field_type }) (λ f. storage_kept f.field_type.storage) fs
  inner_kept (ArrayType t) = storage_kept t.storage
  inner_kept (ContType i) = refl

  type_kept : (t : TypeItem N P) → type_forms (type_changed c t).definition ≡ type_forms t.definition
  type_kept t =
      let d = t.definition in
      two (λ b fs. form_if b (codes "descriptor") ++ (form_if d.comp.shared (codes "shared type") ++ fs))
      (two (λ a b. a || b) (some_map (c.index Types) d.describes) (some_map (c.index Types) d.descriptor))
      (inner_kept d.comp.inner)

  inline_kept : (o : Option (Sig N P)) → inline_forms (option_map (sig_changed c) o) ≡ inline_forms o
  inline_kept None = refl
  inline_kept (Some s) = sig_kept s

  extern_kept : (t : ExternType N P) → extern_forms (extern_changed c t) ≡ extern_forms t
  extern_kept (OfFunc u) = inline_kept u.inline
  extern_kept (OfExactFunc u) = ap (λ fs. codes "exact type" ∷ fs) (inline_kept u.inline)
  extern_kept (OfTable t) = ap (λ fs. form_if t.shared (codes "shared type") ++ fs) (heap_kept t.element.heap_type)
  extern_kept (OfMemory t) = refl
  extern_kept (OfGlobal t) = ap (λ fs. form_if t.shared (codes "shared type") ++ fs) (val_kept t.val_type)
  extern_kept (OfTag u) = inline_kept u.inline

  -- INSTRUCTIONS
  target_kept : (o : Option (MemArgTarget N P)) → target_forms (option_map (target_changed c) o) ≡ target_forms o
  target_kept None = refl
  target_kept (Some (operand.Memory i)) = refl
  target_kept (Some (operand.Array i)) = refl

  select_kept : (ts : Option (List (ValType N P))) → select_forms (option_map (map (val_changed c)) ts) ≡ select_forms ts
  select_kept None = refl
  select_kept (Some ts) = vals_kept ts

  operands_kept : (o : OperandSyntax) (x : Operands N P) → operand_forms (operands_changed c o x) ≡ operand_forms x
  operands_kept o (instr.Block b) = inline_kept b.type_use.inline
  operands_kept o (instr.TryTable t) = inline_kept t.block.type_use.inline
  operands_kept o (instr.Indirect x) = inline_kept x.type_use.inline
  operands_kept o (instr.Heap h) = heap_kept h
  operands_kept o (instr.Ref r) = heap_kept r.heap_type
  operands_kept o (instr.Cast x) = two (λ a b. a ++ b) (heap_kept x.source.heap_type) (heap_kept x.target.heap_type)
  operands_kept o (instr.Types ts) = select_kept ts
  operands_kept o (instr.Memory m) = ap (λ fs. fs ++ access_forms m.ordering) (target_kept m.target)
  operands_kept o (instr.MemoryLane m n) = ap (λ fs. fs ++ access_forms m.ordering) (target_kept m.target)
  operands_kept o _ = refl

  instr_kept : (i : Instruction N P) → instr_forms (instr_changed c i) ≡ instr_forms i
  instr_kept i = ap (λ fs. forms_with i.head fs) (operands_kept (syntax_of i.head) i.operands)

module _ {N P : Type 0} where
  instrs_kept : (change : List (Instruction N P) → Instruction N P → Change N P) (before is : List (Instruction N P)) → instrs_forms (instrs_changed change before is) ≡ instrs_forms is
  instrs_kept change before [] = refl
  instrs_kept change before (i ∷ is) = two (λ a b. a ++ b) (instr_kept (change before i) i) (instrs_kept change (i ∷ before) is)

-- FIELDS
module _ {N P : Type 0} (cs : Changes N P) where
  constant_kept : (e : Expr N P) → expr_forms (constant_changed cs e) ≡ expr_forms e
  constant_kept e = instrs_kept cs.in_constant [] e.instrs

  elements_kept : (es : Elements N P) → elements_forms (elements_changed cs es) ≡ elements_forms es
  elements_kept (Indices is) = refl
  elements_kept (Expressions t es) = two (λ a b. a ++ b) (heap_kept cs.outside t.heap_type) (each_kept expr_forms (constant_changed cs) constant_kept es)

  defined_kept : (d : Defined N P) → defined_forms (defined_changed cs d) ≡ defined_forms d
  defined_kept (Imported from name t) = extern_kept cs.outside t
  defined_kept (Func f) =
      two (λ a b. a ++ b) (two (λ a b. a ++ b) (inline_kept cs.outside f.type_use.inline) (locals_kept cs.outside f.locals)) (instrs_kept (cs.in_function f) [] f.body.instrs)
  defined_kept (Table t init) =
      two (λ a b. (form_if t.shared (codes "shared type") ++ a) ++ b) (heap_kept cs.outside t.element.heap_type) (one_kept expr_forms (constant_changed cs) constant_kept init)
  defined_kept (TableOf wide t es) = two (λ a b. a ++ b) (heap_kept cs.outside t.heap_type) (elements_kept es)
  defined_kept (Memory t) = refl
  defined_kept (MemoryOf wide page vs) = refl
  defined_kept (Global t init) = two (λ a b. (form_if t.shared (codes "shared type") ++ a) ++ b) (val_kept cs.outside t.val_type) (constant_kept init)
  defined_kept (Tag u) = inline_kept cs.outside u.inline

  imports_kept : (is : ImportItems N P) → import_forms (imports_changed cs.outside is) ≡ import_forms is
  imports_kept (Single name i) = extern_kept cs.outside i.extern_type
  imports_kept (Group1 is) =
      each_kept (λ (i : List ℕ × Item N P). extern_forms i.1.extern_type) (λ (i : List ℕ × Item N P). (i.0, item_changed cs.outside i.1)) (λ i. extern_kept cs.outside i.1.extern_type) is
  imports_kept (Group2 names i) = extern_kept cs.outside i.extern_type

  elem_mode_kept : (m : ElemMode N P) → elem_mode_forms (elem_mode_changed cs m) ≡ elem_mode_forms m
  elem_mode_kept PassiveElem = refl
  elem_mode_kept DeclaredElem = refl
  elem_mode_kept (ActiveElem t offset) = constant_kept offset

  data_mode_kept : (m : DataMode N P) → data_mode_forms (data_mode_changed cs m) ≡ data_mode_forms m
  data_mode_kept PassiveData = refl
  data_mode_kept (ActiveData t offset) = constant_kept offset

  pub forms_kept : (f : Field N P) → field_forms (field_changed cs f) ≡ field_forms f
  forms_kept (TypeField t) = type_kept cs.outside t
  forms_kept (RecField r) = each_kept (λ (t : TypeItem N P). type_forms t.definition) (type_changed cs.outside) (type_kept cs.outside) r.types
  forms_kept (ImportField i) = imports_kept i.items
  forms_kept (Define d) = defined_kept d.defined
  forms_kept (ExportField e) = refl
  forms_kept (StartField s) = refl
  forms_kept (ElemField e) = two (λ a b. a ++ b) (elem_mode_kept e.mode) (elements_kept e.elements)
  forms_kept (DataField d) = ap (λ fs. fs ++ flat_map data_forms d.values) (data_mode_kept d.mode)
  forms_kept (CustomField x) = refl
