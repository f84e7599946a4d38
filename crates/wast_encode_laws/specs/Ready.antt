-- Fields that are resolved: nothing stands inline, each index that is encoded is a number, and each use of a type has its index, but for that
-- of a short block (WebAssembly 3.0, 6.1.3 and 6.6).
use Rattle.std.specs.Prelude.{◌≡◌, [], All}
use Rattle.wast_module_fields.specs.FieldTree.{Expr, Function, Elements, Indices, Expressions, Defined, Imported, Func, Table, TableOf, Memory, MemoryOf, Global, Tag, ElemMode, PassiveElem, DeclaredElem, ActiveElem, DataMode, PassiveData, ActiveData, Field, TypeField, RecField, ImportField, Define, ExportField, StartField, ElemField, DataField, CustomField}
use Rattle.wast_conversions.specs.Resolved.{IfThere, IsNumber, RefResolved, ValResolved, TypeResolved, UseResolved, ImportResolved, InstrsResolved}

module _ {N P : Type 0} where
  abbrev pub ExprResolved : Expr N P → Type 0
  ExprResolved e = InstrsResolved e.instrs

  -- functions (6.6, functions)
  pub record FunctionResolved (f : Function N P) : Type 0 where
    pub type_use : UseResolved f.type_use
    pub locals : All (λ l. ValResolved l.val_type) f.locals
    pub body : ExprResolved f.body

  -- segments (6.6, element and data segments)
  abbrev pub ElementsResolved : Elements N P → Type 0
  ElementsResolved (Indices is) = All IsNumber is
  ElementsResolved (Expressions t es) = RefResolved t × All ExprResolved es

  abbrev pub ElemModeResolved : ElemMode N P → Type 0
  ElemModeResolved PassiveElem = Unit {0}
  ElemModeResolved DeclaredElem = Unit {0}
  ElemModeResolved (ActiveElem table offset) = IfThere IsNumber table × ExprResolved offset

  abbrev pub DataModeResolved : DataMode N P → Type 0
  DataModeResolved PassiveData = Unit {0}
  DataModeResolved (ActiveData memory offset) = IfThere IsNumber memory × ExprResolved offset

  -- what is defined (6.6), without an import or a segment inline
  abbrev pub DefinedResolved : Defined N P → Type 0
  DefinedResolved (Imported from name t) = ⊥
  DefinedResolved (Func f) = FunctionResolved f
  DefinedResolved (Table t init) = RefResolved t.element × IfThere ExprResolved init
  DefinedResolved (TableOf wide t es) = ⊥
  DefinedResolved (Memory t) = Unit {0}
  DefinedResolved (MemoryOf wide page vs) = ⊥
  DefinedResolved (Global t init) = ValResolved t.val_type × ExprResolved init
  DefinedResolved (Tag u) = UseResolved u

  -- FIELDS (6.6, modules), without exports inline
  abbrev pub FieldResolved : Field N P → Type 0
  FieldResolved (TypeField t) = TypeResolved t.definition
  FieldResolved (RecField r) = All (λ t. TypeResolved t.definition) r.types
  FieldResolved (ImportField i) = ImportResolved i.items
  FieldResolved (Define d) = (d.exports ≡ []) × DefinedResolved d.defined
  FieldResolved (ExportField e) = IsNumber e.item
  FieldResolved (StartField s) = IsNumber s.func
  FieldResolved (ElemField e) = ElemModeResolved e.mode × ElementsResolved e.elements
  FieldResolved (DataField d) = DataModeResolved d.mode
  FieldResolved (CustomField c) = Unit {0}
