-- Segments whose expressions are the bytes of the instructions that are meant.
use Rattle.std.proofs.Common.{◌≡◌, ℕ, ◌+◌, ◌<◌, ◌^◌, List, [], ◌∷◌, ◌++◌, map, take, length, All, slice_index_or, refl, sym, ap, ◌∙◌, subst, arith, Bor}
use Rattle.std.specs.Prelude.{Result, Ok, Err, OnOk, Bool, true, false, Option, Some, None, option_map}
use Rattle.std.specs.List.{AllByRecursion}
use Rattle.std.proofs.lemmas.List.{length-map}
use Rattle.std.proofs.lemmas.Simd.{map-map}
use Rattle.std.proofs.lemmas.List.Elements.{All-map, All-from_recursion, recursion_from_All}
use Rattle.wasm_encoder_base.specs.EncodeError.{EncodeError}
use Rattle.wasm_encoder_base.specs.Instr.{Instr, expr_bytes}
use Rattle.wasm_encoder_base.specs.Lists.{Listed}
use Rattle.wasm_encoder_base.specs.Types.{IsHeapType}
use Rattle.wasm_encoder_base.specs.Views.{ref_view}
use Rattle.wasm_encoder_base.specs.declared.types.RefType.{RefType}
use Rattle.wasm_encoder_code.specs.Laws.{IsExpression}
use Rattle.wasm_encoder_items.specs.Segments.{ended, is_funcref, ElementSegment, ActiveFunctions, PassiveFunctions, ActiveTableFunctions, DeclaredFunctions, ActiveExpressions, PassiveExpressions, ActiveTableExpressions, DeclaredExpressions, element_bytes, ActiveData, PassiveData, data_bytes}
use Rattle.wasm_encoder_items.specs.SegmentViews.{active_expressions, elements_view, ElementsFit}
use Rattle.wasm_encoder_items.specs.declared.elements.ElementMode.TheVariants.{Active}
use Rattle.wasm_encoder_items.specs.declared.elements.Elements.{Elements}
use Rattle.wasm_encoder_items.specs.declared.elements.Elements.TheVariants.{Functions, Expressions}
use Rattle.wasm_encoder_sections.specs.Writes.{Writes}
use Rattle.wasm_layout.specs.IsModule.{IsU32, IsElement, IsData}
use Rattle.wasm_layout.proofs.Spelled.{element_with, in_bytes, element_spelled}
use Rattle.wast_parser.specs.Identifiers.{Reference}
use Rattle.wast_value_types.specs.ValueTree as types
use Rattle.wast_core_instr.specs.ExpressionViews.{expression_tree}
use Rattle.wast_core_instr.specs.declared.expression.Expression.{Expression}
use Rattle.wast_fields.specs.FieldTree as trees
use Rattle.wast_fields.specs.FieldTree.{Expr, ElemMode, PassiveElem, DeclaredElem, ActiveElem, Indices}
use Rattle.wast_conversions.specs.Types.{number_of, ref_meant}
use Rattle.wast_conversions.proofs.Each.{each_of, more_meant}
use Rattle.wast_meant.specs.FieldsMeant.{expr_meant, element_of}
use Rattle.wast_section_items.specs.Appends.{Appends}
use Rattle.wast_section_items.specs.Fits.{ExprFits, ElementFits, DataFits}
use Rattle.wast_section_items.specs.Parts.{active_segment, segment_with, ModeFits, ModeSound}
use Rattle.wast_section_items.proofs.Writing.{written_as}
use Rattle.wast_section_items.proofs.Appending.{appends_one}

-- DATA
pub adds_data : (is : List Instr) (fit : ExprFits is) (bytes : List ℕ) (made : bytes ≡ in_bytes is) (before after : Listed) (r : Result (Unit {0}) EncodeError) (m n : ℕ) (values : List ℕ) → m ≡ n → IsU32 n → IsExpression is
    → Writes (data_bytes ended (ActiveData m bytes values)) (length values < 2 ^ 32) before after r → Appends (data_bytes expr_bytes) DataFits IsData (ActiveData n is values ∷ []) before after r
adds_data is fit bytes made before after r m n values e number expression w =
    let spelled : data_bytes ended (ActiveData m bytes values) ≡ data_bytes expr_bytes (ActiveData n is values) = λ i. data_bytes ended (ActiveData (e i) (made i) values) in
    appends_one (data_bytes expr_bytes) DataFits IsData (ActiveData n is values) _ _ before after r spelled (λ h. (fit, h)) (λ h. h.1) (number, expression) w

pub adds_passive : (bytes : List ℕ) (before after : Listed) (r : Result (Unit {0}) EncodeError) → Writes (data_bytes ended (PassiveData bytes)) (length bytes < 2 ^ 32) before after r
    → Appends (data_bytes expr_bytes) DataFits IsData (PassiveData bytes ∷ []) before after r
adds_passive bytes before after r w = appends_one (data_bytes expr_bytes) DataFits IsData (PassiveData bytes) _ _ before after r refl (λ h. (tt, h)) (λ h. h.1) tt w

-- ONE ELEMENT SEGMENT, of which what is in range is known where it is written
abbrev Adds : ElementSegment (List Instr) → Listed → Listed → Result (Unit {0}) EncodeError → Type 0
Adds s before after r = Appends (element_bytes expr_bytes) ElementFits IsElement (s ∷ []) before after r

adds_where : (s : ElementSegment (List Instr)) (entry : List ℕ) (fits known : Type 0) (before after : Listed) (r : Result (Unit {0}) EncodeError)
    → entry ≡ element_bytes expr_bytes s → (fits → ElementFits s) → (ElementFits s → fits) → (known → IsElement s) → OnOk r known → Writes entry fits before after r → Adds s before after r
adds_where s entry fits known before after (Ok v) e to from ranges k w = appends_one (element_bytes expr_bytes) ElementFits IsElement s entry fits before after (Ok v) e to from (ranges k) w
adds_where s entry fits known before after (Err error) e to from ranges k w =
    record { appended = tt; room = tt; fit = tt; sound = tt; unchanged = w.unchanged; too_large = λ t room fit. w.too_large t room (from fit.0) }

-- ELEMENTS
pub adds_active : (table : Option ℕ) (offset : Bor (List ℕ)) (elements : Elements) (before after : Listed) (r : Result (Unit {0}) EncodeError)
    → Writes (element_bytes ended (elements_view (Active table offset) elements)) (ElementsFit elements) before after r
    → Writes (element_bytes ended (active_segment table offset.now elements)) (ElementsFit elements) before after r
adds_active table offset (Functions functions) before after r w = w
adds_active table offset (Expressions type values) before after r w = w

module _ {N P : Type 0} where
  -- those of either kind, with an offset
  pub adds_active_elements : (table : Option (Reference N P)) (offset : Expr N P) (elements : Elements) (t : Option ℕ) (bytes : List ℕ) (before after : Listed) (r : Result (Unit {0}) EncodeError) → t ≡ option_map number_of table
      → bytes ≡ in_bytes (expr_meant offset) → ExprFits (expr_meant offset) → Writes (element_bytes ended (active_segment t bytes elements)) (ElementsFit elements) before after r
      → Writes (element_bytes ended (segment_with (ActiveElem table offset) elements)) (ModeFits (ActiveElem table offset) × ElementsFit elements) before after r
  adds_active_elements table offset elements t bytes before after r e v fit w =
      let same : active_segment t bytes elements ≡ segment_with (ActiveElem table offset) elements = λ i. active_segment (e i) (v i) elements in
      subst (λ s. Writes (element_bytes ended s) (ModeFits (ActiveElem table offset) × ElementsFit elements) before after r) same
      (written_as _ _ _ before after r (λ h. (fit, h)) (λ h. h.1) w)

  -- those of functions
  functions_with : (m : ElemMode N P) (ns : List ℕ) (is : List (Reference N P)) → ns ≡ map number_of is → segment_with m (Functions ns) ≡ element_with in_bytes (element_of m (Indices is))
  functions_with PassiveElem ns is e = ap PassiveFunctions e
  functions_with DeclaredElem ns is e = ap DeclaredFunctions e
  functions_with (ActiveElem None offset) ns is e = ap (ActiveFunctions (in_bytes (expr_meant offset))) e
  functions_with (ActiveElem (Some table) offset) ns is e = ap (ActiveTableFunctions (number_of table) (in_bytes (expr_meant offset))) e

  functions_fit : (m : ElemMode N P) (ns : List ℕ) (is : List (Reference N P)) → ns ≡ map number_of is → ModeFits m × (length ns < 2 ^ 32) → ElementFits (element_of m (Indices is))
  functions_fit PassiveElem ns is e h = (tt, omega (arith, ap length e, h.1))
  functions_fit DeclaredElem ns is e h = (tt, omega (arith, ap length e, h.1))
  functions_fit (ActiveElem None offset) ns is e h = (h.0, omega (arith, ap length e, h.1))
  functions_fit (ActiveElem (Some table) offset) ns is e h = (h.0, omega (arith, ap length e, h.1))

  functions_again : (m : ElemMode N P) (ns : List ℕ) (is : List (Reference N P)) → ns ≡ map number_of is → ElementFits (element_of m (Indices is)) → ModeFits m × (length ns < 2 ^ 32)
  functions_again PassiveElem ns is e h = (tt, omega (arith, ap length e, h.1))
  functions_again DeclaredElem ns is e h = (tt, omega (arith, ap length e, h.1))
  functions_again (ActiveElem None offset) ns is e h = (h.0, omega (arith, ap length e, h.1))
  functions_again (ActiveElem (Some table) offset) ns is e h = (h.0, omega (arith, ap length e, h.1))

  functions_sound : (m : ElemMode N P) (is : List (Reference N P)) → AllByRecursion IsU32 (map number_of is) → ModeSound m → IsElement (element_of m (Indices is))
  functions_sound PassiveElem is ns h = ns
  functions_sound DeclaredElem is ns h = ns
  functions_sound (ActiveElem None offset) is ns h = (h.1, ns)
  functions_sound (ActiveElem (Some table) offset) is ns h = (h.0, h.1, ns)

  pub adds_functions : (m : ElemMode N P) (ns : List ℕ) (is : List (Reference N P)) (before after : Listed) (r : Result (Unit {0}) EncodeError) → ns ≡ map number_of is
      → AllByRecursion IsU32 (map number_of is) → OnOk r (ModeSound m) → Writes (element_bytes ended (segment_with m (Functions ns))) (ModeFits m × (length ns < 2 ^ 32)) before after r
      → Adds (element_of m (Indices is)) before after r
  adds_functions m ns is before after r e numbers mode w =
      adds_where (element_of m (Indices is)) _ _ (ModeSound m) before after r
      (ap (element_bytes ended) (functions_with m ns is e) ∙ element_spelled (element_of m (Indices is))) (functions_fit m ns is e) (functions_again m ns is e)
      (functions_sound m is numbers) mode w

  -- those of values
  module _ (t : types.RefType N P) (es : List (Expr N P)) where
    abbrev all_meant : List (List Instr)
    all_meant = map expr_meant es

    abbrev meant : ElemMode N P → ElementSegment (List Instr)
    meant m = element_of m (trees.Expressions t es)

    abbrev tableless : Bool → Expr N P → ElementSegment (List Instr)
    tableless b offset = elim b [
      | true ↦ ActiveExpressions (expr_meant offset) all_meant
      | false ↦ ActiveTableExpressions 0 (expr_meant offset) (ref_meant t) all_meant
    ]

    abbrev tableless_bytes : Bool → Expr N P → ElementSegment (List ℕ)
    tableless_bytes b offset = elim b [
      | true ↦ ActiveExpressions (in_bytes (expr_meant offset)) (map in_bytes all_meant)
      | false ↦ ActiveTableExpressions 0 (in_bytes (expr_meant offset)) (ref_meant t) (map in_bytes all_meant)
    ]

    tableless_with : (b : Bool) (offset : Expr N P) → tableless_bytes b offset ≡ element_with in_bytes (tableless b offset)
    tableless_with true offset = refl
    tableless_with false offset = refl

    values_with : (m : ElemMode N P) (type : RefType) (values : List (List ℕ)) → ref_view type ≡ ref_meant t → values ≡ map in_bytes all_meant
        → segment_with m (Expressions type values) ≡ element_with in_bytes (meant m)
    values_with PassiveElem type values e v = λ i. PassiveExpressions (e i) (v i)
    values_with DeclaredElem type values e v = λ i. DeclaredExpressions (e i) (v i)
    values_with (ActiveElem None offset) type values e v = (λ i. active_expressions None (in_bytes (expr_meant offset)) (e i) (v i)) ∙ tableless_with (is_funcref (ref_meant t)) offset
    values_with (ActiveElem (Some table) offset) type values e v = λ i. ActiveTableExpressions (number_of table) (in_bytes (expr_meant offset)) (e i) (v i)

    -- their counts
    tableless_fits : (b : Bool) (offset : Expr N P) → ExprFits (expr_meant offset) → AllByRecursion ExprFits all_meant → length all_meant < 2 ^ 32 → ElementFits (tableless b offset)
    tableless_fits true offset h k n = ((h, k), n)
    tableless_fits false offset h k n = ((h, k), n)

    values_fit : (m : ElemMode N P) → AllByRecursion ExprFits all_meant → ModeFits m → length all_meant < 2 ^ 32 → ElementFits (meant m)
    values_fit PassiveElem k h n = (k, n)
    values_fit DeclaredElem k h n = (k, n)
    values_fit (ActiveElem None offset) k h n = tableless_fits (is_funcref (ref_meant t)) offset h k n
    values_fit (ActiveElem (Some table) offset) k h n = ((h, k), n)

    record Counts (m : ElemMode N P) : Type 0 where
      mode : ModeFits m
      values : AllByRecursion ExprFits all_meant
      count : length all_meant < 2 ^ 32

    tableless_counts : (b : Bool) (offset : Expr N P) → ElementFits (tableless b offset) → Counts (ActiveElem None offset)
    tableless_counts true offset h = record { mode = h.0.0; values = h.0.1; count = h.1 }
    tableless_counts false offset h = record { mode = h.0.0; values = h.0.1; count = h.1 }

    counts : (m : ElemMode N P) → ElementFits (meant m) → Counts m
    counts PassiveElem h = record { mode = tt; values = h.0; count = h.1 }
    counts DeclaredElem h = record { mode = tt; values = h.0; count = h.1 }
    counts (ActiveElem None offset) h = tableless_counts (is_funcref (ref_meant t)) offset h
    counts (ActiveElem (Some table) offset) h = record { mode = h.0.0; values = h.0.1; count = h.1 }

    -- their ranges
    record InRange : Type 0 where
      type : IsHeapType (ref_meant t).heap_type
      values : AllByRecursion IsExpression all_meant

    tableless_sound : (b : Bool) (offset : Expr N P) → InRange → IsExpression (expr_meant offset) → IsElement (tableless b offset)
    tableless_sound true offset k h = (h, k.values)
    tableless_sound false offset k h = (omega arith, h, k.type, k.values)

    values_sound : (m : ElemMode N P) → InRange → ModeSound m → IsElement (meant m)
    values_sound PassiveElem k h = (k.type, k.values)
    values_sound DeclaredElem k h = (k.type, k.values)
    values_sound (ActiveElem None offset) k h = tableless_sound (is_funcref (ref_meant t)) offset k h.1
    values_sound (ActiveElem (Some table) offset) k h = (h.0, h.1, k.type, k.values)

    pub adds_values : (m : ElemMode N P) (type : RefType) (values : List (List ℕ)) (before after : Listed) (r : Result (Unit {0}) EncodeError) → ref_view type ≡ ref_meant t → values ≡ map in_bytes all_meant
        → All ExprFits all_meant → IsHeapType (ref_meant t).heap_type → AllByRecursion IsExpression all_meant → OnOk r (ModeSound m)
        → Writes (element_bytes ended (segment_with m (Expressions type values))) (ModeFits m × (length values < 2 ^ 32)) before after r → Adds (meant m) before after r
    adds_values m type values before after r e v fit heap each mode w =
        let n : length values ≡ length all_meant = ap length v ∙ length-map all_meant in_bytes in
        adds_where (meant m) _ _ (ModeSound m) before after r
        (ap (element_bytes ended) (values_with m type values e v) ∙ element_spelled (meant m))
        (λ h. values_fit m (recursion_from_All ExprFits all_meant fit) h.0 (omega (arith, n, h.1)))
        (λ h. ((counts m h).mode, omega (arith, n, (counts m h).count)))
        (values_sound m (record { type = heap; values = each })) mode w

    -- where they aren't made
    pub values_inside : (m : ElemMode N P) → AllByRecursion ElementFits (meant m ∷ []) → All ExprFits all_meant
    values_inside m h = All-from_recursion ExprFits all_meant (counts m h.0).values

-- EXPRESSIONS
-- one more is made
pub more_made : (es : List Expression) (k : ℕ) (x : Expression) (before after : List (List ℕ)) (bytes : List ℕ) → k < length es → x ≡ slice_index_or es k x
    → before ≡ map in_bytes (map expr_meant (map expression_tree (take k es))) → bytes ≡ in_bytes (expr_meant (expression_tree x)) → after ≡ before ++ bytes ∷ []
    → after ≡ map in_bytes (map expr_meant (map expression_tree (take (k + 1) es)))
more_made es k x before after bytes l e h q p =
    let mapped = λ (n : ℕ). map-map in_bytes expr_meant (map expression_tree (take n es)) in
    more_meant (λ t. in_bytes (expr_meant t)) expression_tree es k x before after bytes l e (h ∙ mapped k) q p ∙ sym (mapped (k + 1))

-- whose counts fit, told of each, and as they are meant
pub each_fits : (es : List Expression) → All (λ e. ExprFits (expr_meant (expression_tree e))) es → All ExprFits (map expr_meant (map expression_tree es))
each_fits es h = All-map ExprFits expr_meant (map expression_tree es) (All-map (λ e. ExprFits (expr_meant e)) expression_tree es h)

pub fits_each : (es : List Expression) → All ExprFits (map expr_meant (map expression_tree es)) → All (λ e. ExprFits (expr_meant (expression_tree e))) es
fits_each es h = each_of (λ e. ExprFits (expr_meant e)) expression_tree es (each_of ExprFits expr_meant (map expression_tree es) h)
