-- What private contracts say: element segments whose elements are those of the encoder.
use Rattle.std.specs.Prelude.{ℕ, List, Option, option_map}
use Rattle.std.specs.List.{flat_map}
use Rattle.wasm_encoder_base.specs.Instr.{instr_bytes}
use Rattle.wasm_encoder_base.specs.Views.{ref_view}
use Rattle.wasm_encoder_code.specs.Laws.{IsExpression}
use Rattle.wasm_encoder_items.specs.Segments.{ElementSegment}
use Rattle.wasm_encoder_items.specs.SegmentViews.{elements_view, active_functions, active_expressions}
use Rattle.wasm_encoder_items.specs.declared.elements.ElementMode.TheVariants.{Passive, Declared}
use Rattle.wasm_encoder_items.specs.declared.elements.Elements.{Elements}
use Rattle.wasm_encoder_items.specs.declared.elements.Elements.TheVariants.{Functions, Expressions}
use Rattle.wasm_layout.specs.IsModule.{IsU32}
use Rattle.wast_fields.specs.FieldTree.{ElemMode, PassiveElem, DeclaredElem, ActiveElem}
use Rattle.wast_conversions.specs.Types.{number_of}
use Rattle.wast_conversions.specs.Resolved.{IfThere}
use Rattle.wast_meant.specs.FieldsMeant.{expr_meant}
use Rattle.wast_section_items.specs.Fits.{ExprFits}

-- the segment of these elements that is copied into a table, to an offset that is bytes
abbrev pub active_segment : Option ℕ → List ℕ → Elements → ElementSegment (List ℕ)
active_segment table offset (Functions functions) = active_functions table offset functions
active_segment table offset (Expressions type values) = active_expressions table offset (ref_view type) values

module _ {N P : Type 0} where
  -- the segment of these elements in a mode, whose offset is bytes
  abbrev pub segment_with : ElemMode N P → Elements → ElementSegment (List ℕ)
  segment_with PassiveElem elements = elements_view Passive elements
  segment_with DeclaredElem elements = elements_view Declared elements
  segment_with (ActiveElem table offset) elements = active_segment (option_map number_of table) (flat_map instr_bytes (expr_meant offset)) elements

  -- the counts in the offset fit
  abbrev pub ModeFits : ElemMode N P → Type 0
  ModeFits (ActiveElem table offset) = ExprFits (expr_meant offset)
  ModeFits _ = Unit {0}

  -- the offset, and the number of the table, are in range
  abbrev pub ModeSound : ElemMode N P → Type 0
  ModeSound (ActiveElem table offset) = IfThere (λ i. IsU32 (number_of i)) table × IsExpression (expr_meant offset)
  ModeSound _ = Unit {0}
