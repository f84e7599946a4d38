-- Element segments of trees and their bytes, by hand: one of each kind.
use Rattle.std.specs.Prelude.{ℕ, pos, true, false, List, [], ◌∷◌, ◌++◌, Some, None}
use Rattle.wasm_encoder_base.specs.Types as binary
use Rattle.wasm_encoder_base.specs.OperandSyntax as rows
use Rattle.wast_grammar.specs.Tokens.{Name}
use Rattle.wast_value_types.specs.ValueTree.{Known, Abstract, RefType}
use Rattle.wast_core_instr.specs.InstructionTree.{One}
use Rattle.wast_field_syntax.specs.FieldTree.{Expr, Elements, Indices, Expressions, ElemMode, PassiveElem, DeclaredElem, ActiveElem, Table, ElemField}
use Rattle.wast_meant.specs.ExampleTrees.{Tree, num, funcref, one_funcref, ins, const, expr, define, func, Assembles}
use Rattle.wast_meant.specs.Examples.{one_function, empty_code}

-- (module (func) (table 1 funcref) (elem ..))
abbrev pub with_segment : ElemMode Name ℕ → Elements Name ℕ → List Tree
with_segment mode elements = func None [] ∷ define None (Table one_funcref None) ∷ ElemField (record { place = 0; id = None; given = None; mode = mode; elements = elements }) ∷ []

abbrev pub around_segment : List ℕ → List ℕ
around_segment bytes = one_function ++ (0x04 ∷ 0x04 ∷ 0x01 ∷ 0x70 ∷ 0x00 ∷ 0x01 ∷ []) ++ bytes ++ empty_code

abbrev pub at_0 : Expr Name ℕ
at_0 = expr (const (pos 0) ∷ [])

abbrev pub function_0 : Elements Name ℕ
function_0 = Indices (num 0 ∷ [])

-- (ref.func 0), as values of a type
abbrev pub values : RefType Name ℕ → Elements Name ℕ
values t = Expressions t (expr (ins (rows.Index rows.Functions) (0xD2 ∷ []) "ref.func" (One (num 0)) ∷ []) ∷ [])

abbrev pub externref : RefType Name ℕ
externref = record { nullable = true; heap_type = Abstract false (Known binary.ExternHeap) }

pub record SegmentExamples : Type 0 where
  pub active_functions : Assembles (with_segment (ActiveElem None at_0) function_0) (around_segment (0x09 ∷ 0x07 ∷ 0x01 ∷ 0x00 ∷ 0x41 ∷ 0x00 ∷ 0x0B ∷ 0x01 ∷ 0x00 ∷ []))
  pub passive_functions : Assembles (with_segment PassiveElem function_0) (around_segment (0x09 ∷ 0x05 ∷ 0x01 ∷ 0x01 ∷ 0x00 ∷ 0x01 ∷ 0x00 ∷ []))
  pub table_functions : Assembles (with_segment (ActiveElem (Some (num 0)) at_0) function_0) (around_segment (0x09 ∷ 0x09 ∷ 0x01 ∷ 0x02 ∷ 0x00 ∷ 0x41 ∷ 0x00 ∷ 0x0B ∷ 0x00 ∷ 0x01 ∷ 0x00 ∷ []))
  pub declared_functions : Assembles (with_segment DeclaredElem function_0) (around_segment (0x09 ∷ 0x05 ∷ 0x01 ∷ 0x03 ∷ 0x00 ∷ 0x01 ∷ 0x00 ∷ []))
  pub active_values : Assembles (with_segment (ActiveElem None at_0) (values funcref)) (around_segment (0x09 ∷ 0x09 ∷ 0x01 ∷ 0x04 ∷ 0x41 ∷ 0x00 ∷ 0x0B ∷ 0x01 ∷ 0xD2 ∷ 0x00 ∷ 0x0B ∷ []))
  pub passive_values : Assembles (with_segment PassiveElem (values funcref)) (around_segment (0x09 ∷ 0x07 ∷ 0x01 ∷ 0x05 ∷ 0x70 ∷ 0x01 ∷ 0xD2 ∷ 0x00 ∷ 0x0B ∷ []))
  pub table_values : Assembles (with_segment (ActiveElem (Some (num 0)) at_0) (values funcref)) (around_segment (0x09 ∷ 0x0B ∷ 0x01 ∷ 0x06 ∷ 0x00 ∷ 0x41 ∷ 0x00 ∷ 0x0B ∷ 0x70 ∷ 0x01 ∷ 0xD2 ∷ 0x00 ∷ 0x0B ∷ []))
  -- values of another type, in table 0 though none is written
  pub other_values : Assembles (with_segment (ActiveElem None at_0) (values externref)) (around_segment (0x09 ∷ 0x0B ∷ 0x01 ∷ 0x06 ∷ 0x00 ∷ 0x41 ∷ 0x00 ∷ 0x0B ∷ 0x6F ∷ 0x01 ∷ 0xD2 ∷ 0x00 ∷ 0x0B ∷ []))
  pub declared_values : Assembles (with_segment DeclaredElem (values funcref)) (around_segment (0x09 ∷ 0x07 ∷ 0x01 ∷ 0x07 ∷ 0x70 ∷ 0x01 ∷ 0xD2 ∷ 0x00 ∷ 0x0B ∷ []))
