-- What a change of indices leaves: items, the order of imports, and which types are written where.
use Rattle.std.proofs.Common.{◌≡◌, ℕ, Bool, true, List, [], ◌∷◌, map, Option, Some, None, refl, ap}
use Rattle.std.specs.Prelude.{option_map, option_and_then, option_to_list}
use Rattle.std.proofs.lemmas.Simd.{map-map}
use Rattle.std.proofs.Math.Path.{fun_ext}
use Rattle.wasm_encoder_base.specs.Table.{Space, OperandSyntax}
use Rattle.wasm_encoder_base.specs.Balanced.{Turn, Opens, Closes, Stays}
use Rattle.wast_signatures.specs.TypeTree.{InnerType, FuncType, StructType, ArrayType, ContType, StructField, TypeItem}
use Rattle.wast_imports.specs.ImportTree.{ExternType, OfFunc, OfExactFunc, OfTable, OfMemory, OfGlobal, OfTag, Item, ImportItems, Single, Group1, Group2}
use Rattle.wast_core_instr.specs.InstructionTree.{Operands, Instruction}
use Rattle.wast_core_instr.specs.InstructionTree as instr
use Rattle.wast_field_syntax.specs.FieldTree.{Defined, Imported, Func, Table, TableOf, Memory, MemoryOf, Global, Tag, Field, TypeField, RecField, ImportField, Define, ExportField, StartField, ElemField, DataField, CustomField, field_place}
use Rattle.wast_meaning.specs.Written.{space_of_kind, kind_of_type, kind_of}
use Rattle.wast_meaning.specs.Spaces.{Bound, bound, fields_of, bound_type, bound_import, bound_imports, bound_segment, items, listed}
use Rattle.wast_meaning.specs.Mentions.{syntax_of}
use Rattle.wast_meaning.specs.Implied.{written_types, func_sig}
use Rattle.wast_meaning.specs.Scope.{Scope, turn_of_head, own_label, labels_from, labels_seen, labels_or, turned, scope_at}
use Rattle.wast_meaning.specs.Demands.{space_defined, nearest, import_after, import_place, order_demand}
use Rattle.wast_meaning.specs.Changed.{Change, Changes, field_type_changed, sig_changed, inner_changed, type_changed, extern_changed, item_changed, imports_changed, defined_changed, field_changed, operands_changed, instr_changed}
use Rattle.wast_meaning.proofs.Settled.{two}

module _ {N P : Type 0} (c : Change N P) where
  fields_kept : (t : InnerType N P) → fields_of (inner_changed c t) ≡ fields_of t
  fields_kept (FuncType s) = refl
  fields_kept (StructType fs) = map-map (λ (f : StructField N P). f.id) (λ (f : StructField N P). record { id = f.id; field_type = field_type_changed c f.field_type }) fs
  fields_kept (ArrayType t) = refl
  fields_kept (ContType i) = refl

  type_kept : (t : TypeItem N P) → bound_type (type_changed c t) ≡ bound_type t
  type_kept t = ap (λ fs. record (bound_type t) { fields = fs }) (fields_kept t.definition.comp.inner)

  types_kept : (ts : List (TypeItem N P)) → map bound_type (map (type_changed c) ts) ≡ map bound_type ts
  types_kept [] = refl
  types_kept (t ∷ ts) = two (λ a b. a ∷ b) (type_kept t) (types_kept ts)

  kind_of_type_kept : (t : ExternType N P) → kind_of_type (extern_changed c t) ≡ kind_of_type t
  kind_of_type_kept (OfFunc u) = refl
  kind_of_type_kept (OfExactFunc u) = refl
  kind_of_type_kept (OfTable t) = refl
  kind_of_type_kept (OfMemory t) = refl
  kind_of_type_kept (OfGlobal t) = refl
  kind_of_type_kept (OfTag u) = refl

  import_kept : (i : Item N P) → bound_import (item_changed c i) ≡ bound_import i
  import_kept i = ap (λ k. bound (space_of_kind k) i.id i.given) (kind_of_type_kept i.extern_type)

  abbrev member_bound : List ℕ × Item N P → Bound N P
  member_bound i = bound_import i.1

  abbrev member_changed : List ℕ × Item N P → List ℕ × Item N P
  member_changed i = (i.0, item_changed c i.1)

  group_kept : (is : List (List ℕ × Item N P)) → map member_bound (map member_changed is) ≡ map member_bound is
  group_kept [] = refl
  group_kept (i ∷ is) = two (λ a b. a ∷ b) (import_kept i.1) (group_kept is)

  imports_kept : (is : ImportItems N P) → bound_imports (imports_changed c is) ≡ bound_imports is
  imports_kept (Single name i) = ap (λ b. b ∷ []) (import_kept i)
  imports_kept (Group1 is) = group_kept is
  imports_kept (Group2 names i) = ap (λ b. map (λ name. b) names) (import_kept i)

  pub inner_sig : (t : InnerType N P) → func_sig (inner_changed c t) ≡ option_map (sig_changed c) (func_sig t)
  inner_sig (FuncType s) = refl
  inner_sig (StructType fs) = refl
  inner_sig (ArrayType t) = refl
  inner_sig (ContType i) = refl

module _ {N P : Type 0} (cs : Changes N P) where
  kind_kept : (d : Defined N P) → kind_of (defined_changed cs d) ≡ kind_of d
  kind_kept (Imported from name t) = kind_of_type_kept cs.outside t
  kind_kept (Func f) = refl
  kind_kept (Table t init) = refl
  kind_kept (TableOf wide t es) = refl
  kind_kept (Memory t) = refl
  kind_kept (MemoryOf wide page vs) = refl
  kind_kept (Global t init) = refl
  kind_kept (Tag u) = refl

  segment_kept : (d : Defined N P) → bound_segment (defined_changed cs d) ≡ bound_segment d
  segment_kept (Imported from name t) = refl
  segment_kept (Func f) = refl
  segment_kept (Table t init) = refl
  segment_kept (TableOf wide t es) = refl
  segment_kept (Memory t) = refl
  segment_kept (MemoryOf wide page vs) = refl
  segment_kept (Global t init) = refl
  segment_kept (Tag u) = refl

  pub items_kept : (f : Field N P) → items (field_changed cs f) ≡ items f
  items_kept (TypeField t) = ap (λ b. b ∷ []) (type_kept cs.outside t)
  items_kept (RecField r) = types_kept cs.outside r.types
  items_kept (ImportField i) = imports_kept cs.outside i.items
  items_kept (Define d) = two (λ k s. bound (space_of_kind k) d.id d.given ∷ s) (kind_kept d.defined) (segment_kept d.defined)
  items_kept (ExportField e) = refl
  items_kept (StartField s) = refl
  items_kept (ElemField e) = refl
  items_kept (DataField d) = refl
  items_kept (CustomField x) = refl

  pub place_kept : (f : Field N P) → field_place (field_changed cs f) ≡ field_place f
  place_kept (TypeField t) = refl
  place_kept (RecField r) = refl
  place_kept (ImportField i) = refl
  place_kept (Define d) = refl
  place_kept (ExportField e) = refl
  place_kept (StartField s) = refl
  place_kept (ElemField e) = refl
  place_kept (DataField d) = refl
  place_kept (CustomField x) = refl

  -- THE ORDER OF IMPORTS
  space_kept : (d : Defined N P) → space_defined (defined_changed cs d) ≡ space_defined d
  space_kept (Imported from name t) = refl
  space_kept (Func f) = refl
  space_kept (Table t init) = refl
  space_kept (TableOf wide t es) = refl
  space_kept (Memory t) = refl
  space_kept (MemoryOf wide page vs) = refl
  space_kept (Global t init) = refl
  space_kept (Tag u) = refl

  pub nearest_kept : (before : Option Space) (f : Field N P) → nearest before (field_changed cs f) ≡ nearest before f
  nearest_kept before (TypeField t) = refl
  nearest_kept before (RecField r) = refl
  nearest_kept before (ImportField i) = refl
  nearest_kept before (Define d) = ap (λ s. elim s [ Some t ↦ Some t | None ↦ before ]) (space_kept d.defined)
  nearest_kept before (ExportField e) = refl
  nearest_kept before (StartField s) = refl
  nearest_kept before (ElemField e) = refl
  nearest_kept before (DataField d) = refl
  nearest_kept before (CustomField x) = refl

  import_place_kept : (f : Field N P) → import_place (field_changed cs f) ≡ import_place f
  import_place_kept (TypeField t) = refl
  import_place_kept (RecField r) = refl
  import_place_kept (ImportField i) = refl
  import_place_kept (Define d) = ap (λ (s : Option Space). elim s as (λ x. Option P) [ Some t ↦ None | None ↦ Some d.place ]) (space_kept d.defined)
  import_place_kept (ExportField e) = refl
  import_place_kept (StartField s) = refl
  import_place_kept (ElemField e) = refl
  import_place_kept (DataField d) = refl
  import_place_kept (CustomField x) = refl

  pub order_kept : (before : Option Space) (f : Field N P) → order_demand before (field_changed cs f) ≡ order_demand before f
  order_kept before f = ap (λ o. option_to_list (option_and_then (λ p. option_map (import_after p) before) o)) (import_place_kept f)

  -- WRITTEN TYPES
  abbrev pub written_changed : TypeItem N P × Bool → TypeItem N P × Bool
  written_changed t = (type_changed cs.outside t.0, t.1)

  group_types : (ts : List (TypeItem N P)) → map (λ (t : TypeItem N P). (t, true)) (map (type_changed cs.outside) ts) ≡ map written_changed (map (λ (t : TypeItem N P). (t, true)) ts)
  group_types [] = refl
  group_types (t ∷ ts) = ap (λ l. (type_changed cs.outside t, true) ∷ l) (group_types ts)

  pub written_types_kept : (f : Field N P) → written_types (field_changed cs f) ≡ map written_changed (written_types f)
  written_types_kept (TypeField t) = refl
  written_types_kept (RecField r) = group_types r.types
  written_types_kept (ImportField i) = refl
  written_types_kept (Define d) = refl
  written_types_kept (ExportField e) = refl
  written_types_kept (StartField s) = refl
  written_types_kept (ElemField e) = refl
  written_types_kept (DataField d) = refl
  written_types_kept (CustomField x) = refl

-- LABELS
module _ {N P : Type 0} where
  own_label_kept : (c : Change N P) (o : OperandSyntax) (x : Operands N P) → own_label (operands_changed c o x) ≡ own_label x
  own_label_kept c o instr.NoOperands = refl
  own_label_kept c o (instr.Label id) = refl
  own_label_kept c o (instr.Block b) = refl
  own_label_kept c o (instr.TryTable t) = refl
  own_label_kept c o (instr.One i) = refl
  own_label_kept c o (instr.Two i j) = refl
  own_label_kept c o (instr.Counted i n) = refl
  own_label_kept c o (instr.LabelTable is i) = refl
  own_label_kept c o (instr.Indirect x) = refl
  own_label_kept c o (instr.Optional i) = refl
  own_label_kept c o (instr.OptionalTwo p) = refl
  own_label_kept c o (instr.OptionalThen i j) = refl
  own_label_kept c o (instr.Heap h) = refl
  own_label_kept c o (instr.Ref r) = refl
  own_label_kept c o (instr.Cast x) = refl
  own_label_kept c o (instr.Integer z) = refl
  own_label_kept c o (instr.Float text) = refl
  own_label_kept c o (instr.Lanes x) = refl
  own_label_kept c o (instr.Types ts) = refl
  own_label_kept c o (instr.Lane n) = refl
  own_label_kept c o (instr.Shuffle ns) = refl
  own_label_kept c o (instr.Memory m) = refl
  own_label_kept c o (instr.MemoryLane m n) = refl
  own_label_kept c o (instr.Fence ordering) = refl
  own_label_kept c o (instr.Ordered ordering x) = refl
  own_label_kept c o (instr.Resume i hs) = refl
  own_label_kept c o (instr.ResumeThrow i t hs) = refl

  -- two lists of instructions, the nearest first, that leave the same labels open
  abbrev pub SameLabels : List (Instruction N P) → List (Instruction N P) → Type 0
  SameLabels new old = labels_from new ≡ labels_from old

  pub labels_more : (c : Change N P) (i : Instruction N P) (new old : List (Instruction N P)) → SameLabels new old → SameLabels (instr_changed c i ∷ new) (i ∷ old)
  labels_more c i new old e = fun_ext (λ closed. two (λ own outside. turned (turn_of_head i.head) own closed outside) (own_label_kept c (syntax_of i.head) i.operands) e)

  seen_kept : (turn : Turn) (new old : List (Instruction N P)) → SameLabels new old → labels_seen turn new ≡ labels_seen turn old
  seen_kept Opens new old e = ap (λ f. f 0) e
  seen_kept Closes new old e = ap (λ f. f 1) e
  seen_kept Stays new old e = ap (λ f. f 0) e

  -- so an instruction stands in the same scope
  pub scope_at_kept : (eq : N → N → Bool) (s : Scope N P) (c : Change N P) (i : Instruction N P) (new old : List (Instruction N P)) → SameLabels new old →
      scope_at eq s new (instr_changed c i) ≡ scope_at eq s old i
  scope_at_kept eq s c i new old e =
      two (λ l b. record { spaces = labels_or (listed eq l) s.spaces; fields = s.fields; sig_of = s.sig_of; blocks = b }) (seen_kept (turn_of_head i.head) new old e) (ap (λ f. f 0) e)
