-- Fields that can be encoded (WebAssembly 3.0, 6.6): nothing stands inline in place of what a field defines, each index is a number, each use of
-- a type has its index, alignments are powers of two below 65536, constant expressions close the blocks that they open, and each form has bytes.
use Rattle.std.specs.Prelude.{◌≡◌, [], All}
use Rattle.wasm_encoder_base.specs.Balanced.{IsBalanced}
use Rattle.wast_fields.specs.FieldTree.{Expr, Function, Elements, Indices, Expressions, Defined, Func, Table, Memory, Global, Tag, ElemMode, ActiveElem, DataMode, ActiveData, Field, TypeField, RecField, ImportField, Define, ExportField, StartField, ElemField, DataField}
use Rattle.wast_conversions.specs.Operands.{OperandsAligned}
use Rattle.wast_conversions.specs.Resolved.{IfThere, IsNumber, RefResolved, ValResolved, TypeResolved, UseResolved, ImportResolved, InstrsResolved}
use Rattle.wast_meant.specs.Covered.{field_forms}
use Rattle.wast_meant.specs.FieldsMeant.{expr_meant}

module _ {N P : Type 0} where
  -- expressions (6.5)
  pub record ExprReady (e : Expr N P) : Type 0 where
    pub resolved : InstrsResolved e.instrs
    pub aligned : All (λ i. OperandsAligned i.operands) e.instrs

  -- a constant expression closes each block that it opens, and no other
  pub record ConstantReady (e : Expr N P) : Type 0 where
    pub resolved : InstrsResolved e.instrs
    pub aligned : All (λ i. OperandsAligned i.operands) e.instrs
    pub balanced : IsBalanced (expr_meant e) 0

  -- what is defined (6.6)
  pub record FunctionReady (f : Function N P) : Type 0 where
    pub type_use : UseResolved f.type_use
    pub locals : All (λ l. ValResolved l.val_type) f.locals
    pub body : ExprReady f.body

  abbrev pub DefinedReady : Defined N P → Type 0
  DefinedReady (Func f) = FunctionReady f
  DefinedReady (Table t init) = RefResolved t.element × IfThere ConstantReady init
  DefinedReady (Memory t) = Unit {0}
  DefinedReady (Global t init) = ValResolved t.val_type × ConstantReady init
  DefinedReady (Tag u) = UseResolved u
  DefinedReady _ = ⊥

  -- segments (6.6, element and data segments)
  abbrev pub ElementsReady : Elements N P → Type 0
  ElementsReady (Indices is) = All IsNumber is
  ElementsReady (Expressions t es) = RefResolved t × All ConstantReady es

  abbrev pub ElemModeReady : ElemMode N P → Type 0
  ElemModeReady (ActiveElem table offset) = IfThere IsNumber table × ConstantReady offset
  ElemModeReady _ = Unit {0}

  abbrev pub DataModeReady : DataMode N P → Type 0
  DataModeReady (ActiveData memory offset) = IfThere IsNumber memory × ConstantReady offset
  DataModeReady _ = Unit {0}

  -- fields whose parts are ready, whatever forms stand in them
  abbrev pub FieldOfReadyParts : Field N P → Type 0
  FieldOfReadyParts (TypeField t) = TypeResolved t.definition
  FieldOfReadyParts (RecField r) = All (λ t. TypeResolved t.definition) r.types
  FieldOfReadyParts (ImportField i) = ImportResolved i.items
  FieldOfReadyParts (Define d) = DefinedReady d.defined
  FieldOfReadyParts (ExportField e) = IsNumber e.item
  FieldOfReadyParts (StartField s) = IsNumber s.func
  FieldOfReadyParts (ElemField e) = ElemModeReady e.mode × ElementsReady e.elements
  FieldOfReadyParts (DataField d) = DataModeReady d.mode
  FieldOfReadyParts _ = Unit {0}

  pub record FieldReady (f : Field N P) : Type 0 where
    pub resolved : FieldOfReadyParts f
    pub covered : field_forms f ≡ []
