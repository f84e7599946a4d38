-- Segments, tables and globals are spelled alike where their expressions are instructions and where they are the bytes of these.
use Rattle.std.proofs.Common.{ℕ, suc, ◌≡◌, List, [], ◌∷◌, ◌++◌, map, length, refl, ap, flat_map}
use Rattle.wasm_encoder_base.specs.Bytes.{counted}
use Rattle.wasm_encoder_base.specs.Instr.{Instr, instr_bytes, expr_bytes}
use Rattle.wasm_encoder_base.specs.Leb.{uleb}
use Rattle.wasm_encoder_base.specs.Types.{ref_bytes}
use Rattle.wasm_encoder_items.specs.Segments.{ended, ElementSegment, ActiveFunctions, PassiveFunctions, ActiveTableFunctions, DeclaredFunctions, ActiveExpressions, PassiveExpressions, ActiveTableExpressions, DeclaredExpressions, element_bytes, DataSegment, ActiveData, PassiveData, data_bytes, Table, WithoutInit, WithInit, table_item, Global, global_item}

-- with other expressions
module _ {E F : Type 0} (f : E → F) where
  abbrev pub element_with : ElementSegment E → ElementSegment F
  element_with (ActiveFunctions offset functions) = ActiveFunctions (f offset) functions
  element_with (PassiveFunctions functions) = PassiveFunctions functions
  element_with (ActiveTableFunctions table offset functions) = ActiveTableFunctions table (f offset) functions
  element_with (DeclaredFunctions functions) = DeclaredFunctions functions
  element_with (ActiveExpressions offset elements) = ActiveExpressions (f offset) (map f elements)
  element_with (PassiveExpressions type elements) = PassiveExpressions type (map f elements)
  element_with (ActiveTableExpressions table offset type elements) = ActiveTableExpressions table (f offset) type (map f elements)
  element_with (DeclaredExpressions type elements) = DeclaredExpressions type (map f elements)

  abbrev pub data_with : DataSegment E → DataSegment F
  data_with (ActiveData memory offset bytes) = ActiveData memory (f offset) bytes
  data_with (PassiveData bytes) = PassiveData bytes

  abbrev pub table_with : Table E → Table F
  table_with (WithoutInit t) = WithoutInit t
  table_with (WithInit t init) = WithInit t (f init)

  abbrev pub global_with : Global E → Global F
  global_with g = record { type = g.type; init = f g.init }

-- the bytes of instructions; with the end they are those of an expression
abbrev pub in_bytes : List Instr → List ℕ
in_bytes is = flat_map instr_bytes is

same_count : (es : List (List Instr)) → length (map in_bytes es) ≡ length es
same_count [] = refl
same_count (e ∷ es) = ap suc (same_count es)

same_items : (es : List (List Instr)) → flat_map ended (map in_bytes es) ≡ flat_map expr_bytes es
same_items [] = refl
same_items (e ∷ es) = ap (λ v. expr_bytes e ++ v) (same_items es)

same_list : (es : List (List Instr)) → counted ended (map in_bytes es) ≡ counted expr_bytes es
same_list es = λ i. uleb (same_count es i) ++ same_items es i

pub element_spelled : (s : ElementSegment (List Instr)) → element_bytes ended (element_with in_bytes s) ≡ element_bytes expr_bytes s
element_spelled (ActiveFunctions offset functions) = refl
element_spelled (PassiveFunctions functions) = refl
element_spelled (ActiveTableFunctions table offset functions) = refl
element_spelled (DeclaredFunctions functions) = refl
element_spelled (ActiveExpressions offset elements) = ap (λ v. 0x04 ∷ (expr_bytes offset ++ v)) (same_list elements)
element_spelled (PassiveExpressions type elements) = ap (λ v. 0x05 ∷ (ref_bytes type ++ v)) (same_list elements)
element_spelled (ActiveTableExpressions table offset type elements) = ap (λ v. 0x06 ∷ (uleb table ++ (expr_bytes offset ++ (ref_bytes type ++ v)))) (same_list elements)
element_spelled (DeclaredExpressions type elements) = ap (λ v. 0x07 ∷ (ref_bytes type ++ v)) (same_list elements)

pub data_spelled : (s : DataSegment (List Instr)) → data_bytes ended (data_with in_bytes s) ≡ data_bytes expr_bytes s
data_spelled (ActiveData memory offset bytes) = refl
data_spelled (PassiveData bytes) = refl

pub table_spelled : (t : Table (List Instr)) → table_item ended (table_with in_bytes t) ≡ table_item expr_bytes t
table_spelled (WithoutInit t) = refl
table_spelled (WithInit t init) = refl

pub global_spelled : (g : Global (List Instr)) → global_item ended (global_with in_bytes g) ≡ global_item expr_bytes g
global_spelled g = refl
