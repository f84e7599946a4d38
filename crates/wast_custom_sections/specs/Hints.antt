-- The branch hints of a module's functions, and their section (branch hinting).
use Rattle.std.specs.Prelude.{ℕ, ◌≡◌, List, [], map, length, Option, option_map, All}
use Rattle.std.specs.List.{flat_map, slice_get}
use Rattle.std.specs.Option.{option_flatten}
use Rattle.wasm_encoder_base.specs.Lists.{Listed, listed}
use Rattle.wasm_encoder_code.specs.Body.{Body, place_of}
use Rattle.wasm_encoder_code.specs.Locals.{LocalsFit}
use Rattle.wasm_encoder_custom.specs.Custom.{custom_body}
use Rattle.wasm_encoder_custom.specs.BranchHints.{function_hints_bytes, hints_section}
use Rattle.wast_signatures.specs.TypeTree.{Local}
use Rattle.wast_module_fields.specs.FieldTree.{Expr, Defined, Func, Field, Define}
use Rattle.wast_conversions.specs.Operands.{OperandsAligned}
use Rattle.wast_conversions.specs.Resolved.{ValResolved, InstrsResolved}
use Rattle.wast_conversions.specs.Covered.{val_forms, instrs_forms}
use Rattle.wasm_layout.specs.AbstractModule.{Function, FunctionHints}
use Rattle.wasm_layout.specs.IsModule.{IsU32, IfThere}
use Rattle.wasm_layout.specs.Present.{has_any}
use Rattle.wasm_layout.specs.Section.{Hints}
use Rattle.wasm_layout.specs.Layout.{Section, Piece, Known, if_there, placed_hints}
use Rattle.wasm_layout.specs.Lays.{PiecesFit}
use Rattle.wast_meant.specs.FieldsMeant.{function_of}
use Rattle.wast_meant.specs.NamesMeant.{bodies_in, hints_from}

-- PLACES: that of the end of a body, and so each, is a number of 32 bits, and so are the counts of its locals
pub record PlacesFit (b : Body) : Type 0 where
  pub locals : LocalsFit b.locals
  pub places : IsU32 (place_of b (length b.instructions))

-- the number of a function that has hints is one of 32 bits, and the places of its body are
pub record FunctionFits (at : ℕ → Option Function) (g : FunctionHints) : Type 0 where
  pub number : IsU32 g.function
  pub body : IfThere (λ f. PlacesFit f.body) (at g.function)

module _ {N P : Type 0} where
  -- FUNCTIONS of the index space, without those that are imported: the one with a number
  abbrev pub function_in : List (Field N P) → ℕ → Option Function
  function_in fs n = option_flatten (slice_get (map (option_map function_of) (flat_map bodies_in fs)) n)

  -- those that have hints
  abbrev pub hints_in : List (Field N P) → List FunctionHints
  hints_in fs = hints_from 0 (flat_map bodies_in fs)

  -- their list, the hints at the places of their instructions, and its section, which is absent where there are none
  abbrev pub hint_list : List (Field N P) → Listed
  hint_list fs = listed function_hints_bytes (map (placed_hints (function_in fs)) (hints_in fs))

  abbrev pub hint_section : List (Field N P) → Section
  hint_section fs = record { kind = Hints; contents = custom_body (hints_section (hint_list fs)) }

  abbrev pub hint_pieces : List (Field N P) → List Piece
  hint_pieces fs = map Known (if_there (has_any (hints_in fs)) (hint_section fs))

  -- numbers, places, and the size of the section fit
  pub record HintsFit (fs : List (Field N P)) : Type 0 where
    pub functions : All (FunctionFits (function_in fs)) (hints_in fs)
    pub section : PiecesFit (hint_pieces fs)

  -- BODIES that can be encoded: each index is a number, each form has bytes, and alignments are powers of two
  pub record BodyReady (locals : List (Local N P)) (e : Expr N P) : Type 0 where
    pub locals_resolved : All (λ l. ValResolved l.val_type) locals
    pub locals_covered : flat_map (λ l. val_forms l.val_type) locals ≡ []
    pub resolved : InstrsResolved e.instrs
    pub covered : instrs_forms e.instrs ≡ []
    pub aligned : All (λ i. OperandsAligned i.operands) e.instrs

  abbrev pub DefinedHintReady : Defined N P → Type 0
  DefinedHintReady (Func f) = BodyReady f.locals f.body
  DefinedHintReady d = Unit {0}

  -- a field that is a function has such a body
  abbrev pub HintReady : Field N P → Type 0
  HintReady (Define d) = DefinedHintReady d.defined
  HintReady f = Unit {0}
