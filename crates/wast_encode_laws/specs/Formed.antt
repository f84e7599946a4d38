-- Fields that are well formed beside names (WebAssembly 3.0, 3.4.13 and 6.5, memory instructions, and the proposal on branch hints):
-- alignments are powers of two, hints stand on instructions, and constant expressions close the blocks that they open.
use Rattle.std.specs.Prelude.{ℕ, ◌+◌, ◌<◌, ◌≤◌, List, [], ◌∷◌, length, All}
use Rattle.wasm_encoder_base.specs.Balanced.{IsBalanced}
use Rattle.wast_expressions.specs.Items.{Hint}
use Rattle.wast_core_instr.specs.InstructionTree.{Instruction}
use Rattle.wast_module_fields.specs.FieldTree.{Expr, Elements, Indices, Expressions, Defined, Func, Table, TableOf, Global, ElemMode, ActiveElem, DataMode, ActiveData, Field, Define, ElemField, DataField}
use Rattle.wast_conversions.specs.Operands.{OperandsAligned}
use Rattle.wast_conversions.specs.Resolved.{IfThere}
use Rattle.wast_meant.specs.FieldsMeant.{expr_meant}

-- hints rise from an index on, each stands on one of so many instructions, and their values are below 128
abbrev pub HintsFit : ℕ → ℕ → List Hint → Type 0
HintsFit least len [] = Unit {0}
HintsFit least len (h ∷ hs) = (least ≤ h.index) × (h.index < len) × (h.value < 128) × HintsFit (h.index + 1) len hs

module _ {N P : Type 0} where
  -- alignments are powers of two below 65536
  abbrev pub InstrsAligned : List (Instruction N P) → Type 0
  InstrsAligned is = All (λ i. OperandsAligned i.operands) is

  pub record IsFormed (e : Expr N P) : Type 0 where
    pub aligned : InstrsAligned e.instrs
    pub hints : HintsFit 0 (length e.instrs) e.hints

  -- a constant expression closes each block that it opens, and no other
  pub record IsConstant (e : Expr N P) : Type 0 where
    pub formed : IsFormed e
    pub balanced : IsBalanced (expr_meant e) 0

  -- FIELDS
  abbrev pub ElementsFormed : Elements N P → Type 0
  ElementsFormed (Indices is) = Unit {0}
  ElementsFormed (Expressions t es) = All IsConstant es

  abbrev pub DefinedFormed : Defined N P → Type 0
  DefinedFormed (Func f) = IsFormed f.body
  DefinedFormed (Table t init) = IfThere IsConstant init
  DefinedFormed (TableOf wide t es) = ElementsFormed es
  DefinedFormed (Global t init) = IsConstant init
  DefinedFormed _ = Unit {0}

  abbrev pub ElemModeFormed : ElemMode N P → Type 0
  ElemModeFormed (ActiveElem table offset) = IsConstant offset
  ElemModeFormed _ = Unit {0}

  abbrev pub DataModeFormed : DataMode N P → Type 0
  DataModeFormed (ActiveData memory offset) = IsConstant offset
  DataModeFormed _ = Unit {0}

  abbrev pub FieldFormed : Field N P → Type 0
  FieldFormed (Define d) = DefinedFormed d.defined
  FieldFormed (ElemField e) = ElemModeFormed e.mode × ElementsFormed e.elements
  FieldFormed (DataField d) = DataModeFormed d.mode
  FieldFormed _ = Unit {0}
