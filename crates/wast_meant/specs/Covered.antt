-- The forms of fields that are read and resolved, and have no bytes here: those of types and instructions, and data that are floats.
use Rattle.std.specs.Prelude.{ℕ, List, [], ◌∷◌, ◌++◌, Option, Some, None, option_to_list, codes}
use Rattle.std.specs.List.{flat_map}
use Rattle.wast_imports.specs.ImportTree.{ImportItems, Single, Group1, Group2}
use Rattle.wast_data.specs.DataTree.{DataVal, Float}
use Rattle.wast_field_syntax.specs.FieldTree.{Expr, Elements, Indices, Expressions, Defined, Imported, Func, Table, TableOf, Memory, MemoryOf, Global, Tag, ElemMode, ActiveElem, DataMode, ActiveData, Field, TypeField, RecField, ImportField, Define, ElemField, DataField, field_place}
use Rattle.wast_meaning.specs.Written.{written_out}
use Rattle.wast_conversions.specs.Covered.{Form, ref_forms, val_forms, use_forms, type_forms, table_forms, global_forms, extern_forms, instrs_forms}

abbrev pub data_forms : DataVal → List Form
data_forms (Float count) = codes "float data" ∷ []
data_forms v = []

-- the first form of a field, with its place, else that of the others
abbrev pub first_of : {P : Type 0} → P → List Form → Option (P × Form) → Option (P × Form)
first_of p [] rest = rest
first_of p (form ∷ forms) rest = Some (p, form)

module _ {N P : Type 0} where
  abbrev pub expr_forms : Expr N P → List Form
  expr_forms e = instrs_forms e.instrs

  -- FIELDS, as they are written
  abbrev pub elements_forms : Elements N P → List Form
  elements_forms (Indices is) = []
  elements_forms (Expressions t es) = ref_forms t ++ flat_map expr_forms es

  abbrev pub defined_forms : Defined N P → List Form
  defined_forms (Imported from name t) = extern_forms t
  defined_forms (Func f) = use_forms f.type_use ++ flat_map (λ l. val_forms l.val_type) f.locals ++ expr_forms f.body
  defined_forms (Table t init) = table_forms t ++ flat_map expr_forms (option_to_list init)
  defined_forms (TableOf wide t es) = ref_forms t ++ elements_forms es
  defined_forms (Memory t) = []
  defined_forms (MemoryOf wide page vs) = flat_map data_forms vs
  defined_forms (Global t init) = global_forms t ++ expr_forms init
  defined_forms (Tag u) = use_forms u

  abbrev pub import_forms : ImportItems N P → List Form
  import_forms (Single name i) = extern_forms i.extern_type
  import_forms (Group1 is) = flat_map (λ i. extern_forms i.1.extern_type) is
  import_forms (Group2 names i) = extern_forms i.extern_type

  abbrev pub elem_mode_forms : ElemMode N P → List Form
  elem_mode_forms (ActiveElem table offset) = expr_forms offset
  elem_mode_forms m = []

  abbrev pub data_mode_forms : DataMode N P → List Form
  data_mode_forms (ActiveData memory offset) = expr_forms offset
  data_mode_forms m = []

  abbrev pub field_forms : Field N P → List Form
  field_forms (TypeField t) = type_forms t.definition
  field_forms (RecField r) = flat_map (λ t. type_forms t.definition) r.types
  field_forms (ImportField i) = import_forms i.items
  field_forms (Define d) = defined_forms d.defined
  field_forms (ElemField e) = elem_mode_forms e.mode ++ elements_forms e.elements
  field_forms (DataField d) = data_mode_forms d.mode ++ flat_map data_forms d.values
  field_forms f = []

  abbrev pub first_form : List (Field N P) → Option (P × Form)
  first_form [] = None
  first_form (f ∷ fs) = first_of (field_place f) (field_forms f) (first_form fs)

  -- the first form that isn't covered, by fields that are written out, and the place of the field that it is written in
  abbrev pub uncovered : (ℕ → N) → List (Field N P) → Option (P × Form)
  uncovered naming fs = first_form (written_out naming fs)
