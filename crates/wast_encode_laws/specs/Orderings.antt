-- What stands behind an ordering of an atomic instruction: indices alone, and no use of a type. So it is in trees that are read.
use Rattle.std.specs.Prelude.{Bool, true, false, List, [], ◌++◌, option_to_list}
use Rattle.std.specs.List.{flat_map, list_all}
use Rattle.wast_core_instr.specs.InstructionTree.{Operands, NoOperands, One, Two, Optional, Ordered, Instruction}
use Rattle.wast_module_fields.specs.FieldTree.{Expr, Elements, Indices, Expressions, Defined, Func, Table, TableOf, Global, ElemMode, ActiveElem, DataMode, ActiveData, Field, Define, ElemField, DataField}

module _ {N P : Type 0} where
  abbrev pub are_indices : Operands N P → Bool
  are_indices NoOperands = true
  are_indices (One i) = true
  are_indices (Two i j) = true
  are_indices (Optional i) = true
  are_indices _ = false

  abbrev pub is_ordered : Operands N P → Bool
  is_ordered (Ordered ordering x) = are_indices x
  is_ordered _ = true

  -- the instructions of a field
  abbrev pub all_instrs : List (Expr N P) → List (Instruction N P)
  all_instrs es = flat_map (λ e. e.instrs) es

  abbrev pub elements_instrs : Elements N P → List (Instruction N P)
  elements_instrs (Indices is) = []
  elements_instrs (Expressions t es) = all_instrs es

  abbrev pub defined_instrs : Defined N P → List (Instruction N P)
  defined_instrs (Func f) = f.body.instrs
  defined_instrs (Table t init) = all_instrs (option_to_list init)
  defined_instrs (TableOf wide t es) = elements_instrs es
  defined_instrs (Global t init) = init.instrs
  defined_instrs _ = []

  abbrev pub elem_mode_instrs : ElemMode N P → List (Instruction N P)
  elem_mode_instrs (ActiveElem table offset) = offset.instrs
  elem_mode_instrs _ = []

  abbrev pub data_mode_instrs : DataMode N P → List (Instruction N P)
  data_mode_instrs (ActiveData memory offset) = offset.instrs
  data_mode_instrs _ = []

  abbrev pub field_instrs : Field N P → List (Instruction N P)
  field_instrs (Define d) = defined_instrs d.defined
  field_instrs (ElemField e) = elem_mode_instrs e.mode ++ elements_instrs e.elements
  field_instrs (DataField d) = data_mode_instrs d.mode
  field_instrs _ = []

  -- orderings of fields
  abbrev pub are_ordered : List (Field N P) → Bool
  are_ordered fs = list_all (λ f. list_all (λ i. is_ordered i.operands) (field_instrs f)) fs
