-- The fields of a module, and modules, as they are written: abstract syntax trees (WebAssembly 3.0, 6.6), over names of type N and
-- places of type P.
use Rattle.std.specs.Prelude.{ℕ, Bool, true, false, List, [], ◌∷◌, Option, not, ◌&&◌}
use Rattle.wast_parser.specs.Problem.{Problem}
use Rattle.wast_parser.specs.Identifiers.{Named, Reference}
use Rattle.wast_value_types.specs.ValueTree.{RefType, TableType, MemoryType, GlobalType}
use Rattle.wast_signatures.specs.TypeTree.{Local, TypeUse, TypeItem, Rec}
use Rattle.wast_core_instr.specs.InstructionTree.{Instruction}
use Rattle.wast_expressions.specs.Items.{Expression}
use Rattle.wast_exports.specs.Exports as exports
use Rattle.wast_customs.specs.CustomTree as customs
use Rattle.wast_imports.specs.ImportTree.{ExternType, Imports}
use Rattle.wast_data.specs.DataTree.{DataVal}

-- expressions (6.5, expressions), with the hints that stand in them
abbrev pub Expr : Type 0 → Type 0 → Type 0
Expr N P = Expression (Instruction N P)

-- a function with a body (6.6, functions)
pub record Function (N P : Type 0) : Type 0 where
  pub type_use : TypeUse N P
  pub locals : List (Local N P)
  pub body : Expr N P

-- the list of an element segment (6.6, element segments): indices of functions, or expressions of a type
pub data Elements (N P : Type 0) : Type 0 where
  Indices : List (Reference N P) → Elements N P
  Expressions : RefType N P → List (Expr N P) → Elements N P

-- What a field defines (6.6). Tables and memories may have their segment inline, which gives their size.
pub data Defined (N P : Type 0) : Type 0 where
  Imported : (from name : List ℕ) → ExternType N P → Defined N P
  Func : Function N P → Defined N P
  Table : TableType N P → (init : Option (Expr N P)) → Defined N P
  TableOf : (is_wide : Bool) → RefType N P → Elements N P → Defined N P
  Memory : MemoryType → Defined N P
  -- the page size, where one is written, is 2 to this power
  MemoryOf : (is_wide : Bool) → (page : Option ℕ) → List DataVal → Defined N P
  Global : GlobalType N P → (init : Expr N P) → Defined N P
  Tag : TypeUse N P → Defined N P

-- a field that defines something, and the names under which it is exported
pub record Definition (N P : Type 0) : Type 0 where
  -- where its keyword stands
  pub place : P
  pub id : Option (Named N P)
  pub given : Option (List ℕ)
  pub exports : List (List ℕ)
  pub defined : Defined N P

-- the start function (6.6, start function)
pub record Start (N P : Type 0) : Type 0 where
  -- where the word `start` stands
  pub place : P
  pub func : Reference N P

-- element segments (6.6, element segments)
pub data ElemMode (N P : Type 0) : Type 0 where
  PassiveElem : ElemMode N P
  DeclaredElem : ElemMode N P
  ActiveElem : (table : Option (Reference N P)) → (offset : Expr N P) → ElemMode N P

pub record Elem (N P : Type 0) : Type 0 where
  -- where the word `elem` stands
  pub place : P
  pub id : Option (Named N P)
  pub given : Option (List ℕ)
  pub mode : ElemMode N P
  pub elements : Elements N P

-- data segments (6.6, data segments)
pub data DataMode (N P : Type 0) : Type 0 where
  PassiveData : DataMode N P
  ActiveData : (memory : Option (Reference N P)) → (offset : Expr N P) → DataMode N P

pub record Data (N P : Type 0) : Type 0 where
  -- where the word `data` stands
  pub place : P
  pub id : Option (Named N P)
  pub given : Option (List ℕ)
  pub mode : DataMode N P
  pub values : List DataVal

-- fields (6.6, modules)
pub data Field (N P : Type 0) : Type 0 where
  TypeField : TypeItem N P → Field N P
  RecField : Rec N P → Field N P
  ImportField : Imports N P → Field N P
  Define : Definition N P → Field N P
  ExportField : exports.Export N P → Field N P
  StartField : Start N P → Field N P
  ElemField : Elem N P → Field N P
  DataField : Data N P → Field N P
  CustomField : customs.Custom P → Field N P

-- where the keyword of a field stands
abbrev pub field_place : {N P : Type 0} → Field N P → P
field_place (TypeField t) = t.place
field_place (RecField r) = r.place
field_place (ImportField i) = i.place
field_place (Define d) = d.place
field_place (ExportField e) = e.place
field_place (StartField s) = s.place
field_place (ElemField e) = e.place
field_place (DataField d) = d.place
field_place (CustomField c) = customs.span_of c

-- whether one field at most is the start
abbrev pub is_start : {N P : Type 0} → Field N P → Bool
is_start (StartField s) = true
is_start f = false

abbrev pub no_start : {N P : Type 0} → List (Field N P) → Bool
no_start [] = true
no_start (f ∷ fs) = not (is_start f) && no_start fs

abbrev pub one_start : {N P : Type 0} → List (Field N P) → Bool
one_start [] = true
one_start (f ∷ fs) = elim (is_start f) [ true ↦ no_start fs | false ↦ one_start fs ]

-- what a module holds: fields, or the pieces of a binary
pub data Content (N P : Type 0) : Type 0 where
  Fields : List (Field N P) → Content N P
  Pieces : List (List ℕ) → Content N P

-- a module (6.6, modules)
pub record Module (N P : Type 0) : Type 0 where
  -- where the word `module` stands, or the keyword of the first field
  pub place : P
  pub id : Option (Named N P)
  pub given : Option (List ℕ)
  pub content : Content N P
  -- what a resolver refused it with; a module that is read has none
  pub refusal : Option Problem
