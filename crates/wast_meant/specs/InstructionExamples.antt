-- Instructions of trees and their bytes, by hand.
use Rattle.std.specs.Prelude.{ℕ, pos, true, false, [], ◌∷◌, ◌++◌, Some, None, codes}
use Rattle.std.specs.Int.{w64}
use Rattle.wasm_encoder_base.specs.Types as binary
use Rattle.wasm_encoder_base.specs.OperandSyntax as rows
use Rattle.wast_value_types.specs.ValueTree.{Known, Cont, Abstract, Concrete, Value, HeapType}
use Rattle.wast_signatures.specs.TypeTree.{FuncType, StructType}
use Rattle.wast_vector_operands.specs.VectorTree.{Integers, Floats}
use Rattle.wast_operands.specs.OperandTree.{AcqRel, SeqCst}
use Rattle.wast_operands.specs.OperandTree as target
use Rattle.wast_core_instr.specs.InstructionTree.{One, Two, LabelTable, Indirect, OptionalTwo, OptionalThen, Heap, Ref, Cast, Lanes, Types, Memory, Fence}
use Rattle.wast_grammar.specs.Tokens.{Name}
use Rattle.wast_data.specs.DataTree.{Text}
use Rattle.wast_field_syntax.specs.FieldTree as fields
use Rattle.wast_field_syntax.specs.FieldTree.{Indices, Table, PassiveElem, PassiveData, TypeField, ElemField, DataField}
use Rattle.wast_meant.specs.ExampleTrees.{id, says, num, i32, i64, local, sig, no_use, with_sig, type_item, one_page, one_funcref, ins, plain, end, block, define, func_of, func, Assembles, IsUncovered}
use Rattle.wast_meant.specs.Examples.{one_function, names}

abbrev pub any_heap : HeapType Name ℕ
any_heap = Abstract false (Known binary.AnyHeap)

pub record InstructionExamples : Type 0 where
  -- (module (func v128.const i64x2 1 2))
  pub vector : Assembles (func None (ins rows.V128 (0xFD ∷ 0x0C ∷ []) "v128.const" (Lanes (Integers w64 (pos 1 ∷ pos 2 ∷ []))) ∷ []) ∷ [])
      (one_function ++ (0x0A ∷ 0x16 ∷ 0x01 ∷ 0x14 ∷ 0x00 ∷ 0xFD ∷ 0x0C ∷ 0x01 ∷ 0x00 ∷ 0x00 ∷ 0x00 ∷ 0x00 ∷ 0x00 ∷ 0x00 ∷ 0x00 ∷ 0x02 ∷ 0x00 ∷ 0x00 ∷ 0x00 ∷ 0x00 ∷ 0x00 ∷ 0x00 ∷ 0x00 ∷ 0x0B ∷ []))
  -- (module (type (struct (field $a i32) (field $b i32))) (func struct.get 0 $b))
  pub member : Assembles (TypeField (type_item None (StructType (record { id = id "a"; field_type = record { mutable = false; storage = Value i32 } } ∷ record { id = id "b"; field_type = record { mutable = false; storage = Value i32 } } ∷ []))) ∷ func None (ins (rows.Indices rows.Types rows.Fields) (0xFB ∷ 0x02 ∷ []) "struct.get" (Two (num 0) (says "b")) ∷ []) ∷ [])
      ((0x01 ∷ 0x0A ∷ 0x02 ∷ 0x5F ∷ 0x02 ∷ 0x7F ∷ 0x00 ∷ 0x7F ∷ 0x00 ∷ 0x60 ∷ 0x00 ∷ 0x00 ∷ 0x03 ∷ 0x02 ∷ 0x01 ∷ 0x01 ∷ 0x0A ∷ 0x08 ∷ 0x01 ∷ 0x06 ∷ 0x00 ∷ 0xFB ∷ 0x02 ∷ 0x00 ∷ 0x01 ∷ 0x0B ∷ [])
      ++ names 0x10 (0x0A ∷ 0x09 ∷ 0x01 ∷ 0x00 ∷ 0x02 ∷ 0x00 ∷ 0x01 ∷ 0x61 ∷ 0x01 ∷ 0x01 ∷ 0x62 ∷ []))
  -- (module (type (func (param i32))) (func (type 0) (local $x i64) local.get $x drop)): the type's parameter comes first
  pub behind_parameters : Assembles (TypeField (type_item None (FuncType (sig (i32 ∷ []) []))) ∷ define None (func_of (record { index = Some (num 0); inline = None }) (local (id "x") i64 ∷ []) (ins (rows.Index rows.Locals) (0x20 ∷ []) "local.get" (One (says "x")) ∷ plain 0x1A "drop" ∷ []) []) ∷ [])
      ((0x01 ∷ 0x05 ∷ 0x01 ∷ 0x60 ∷ 0x01 ∷ 0x7F ∷ 0x00 ∷ 0x03 ∷ 0x02 ∷ 0x01 ∷ 0x00 ∷ 0x0A ∷ 0x09 ∷ 0x01 ∷ 0x07 ∷ 0x01 ∷ 0x01 ∷ 0x7E ∷ 0x20 ∷ 0x01 ∷ 0x1A ∷ 0x0B ∷ []) ++ names 0x0D (0x02 ∷ 0x06 ∷ 0x01 ∷ 0x00 ∷ 0x01 ∷ 0x01 ∷ 0x01 ∷ 0x78 ∷ []))
  -- (module (type (func (param $x i32))))
  pub type_parameter : Assembles (TypeField (type_item None (FuncType (record { params = local (id "x") i32 ∷ []; results = [] }))) ∷ []) ((0x01 ∷ 0x05 ∷ 0x01 ∷ 0x60 ∷ 0x01 ∷ 0x7F ∷ 0x00 ∷ []) ++ names 0x0D (0x0C ∷ 0x06 ∷ 0x01 ∷ 0x00 ∷ 0x01 ∷ 0x00 ∷ 0x01 ∷ 0x78 ∷ []))
  -- (module (memory 1) (memory $m 1) (data "a") (func memory.init $m 0)): the segment comes first
  pub memory_init : Assembles (define None (fields.Memory one_page) ∷ define (id "m") (fields.Memory one_page) ∷ DataField (record { place = 0; id = None; given = None; mode = PassiveData; values = Text (codes "a") ∷ [] }) ∷ func None (ins (rows.Init rows.Memories rows.Datas) (0xFC ∷ 0x08 ∷ []) "memory.init" (OptionalThen (Some (says "m")) (num 0)) ∷ []) ∷ [])
      (one_function ++ (0x05 ∷ 0x05 ∷ 0x02 ∷ 0x00 ∷ 0x01 ∷ 0x00 ∷ 0x01 ∷ 0x0C ∷ 0x01 ∷ 0x01 ∷ 0x0A ∷ 0x08 ∷ 0x01 ∷ 0x06 ∷ 0x00 ∷ 0xFC ∷ 0x08 ∷ 0x00 ∷ 0x01 ∷ 0x0B ∷ 0x0B ∷ 0x04 ∷ 0x01 ∷ 0x01 ∷ 0x01 ∷ 0x61 ∷ []) ++ names 0x0B (0x06 ∷ 0x04 ∷ 0x01 ∷ 0x01 ∷ 0x01 ∷ 0x6D ∷ []))
  -- (module (table 1 funcref) (table 1 funcref) (elem $e func) (func table.init 1 $e))
  pub table_init : Assembles (define None (Table one_funcref None) ∷ define None (Table one_funcref None) ∷ ElemField (record { place = 0; id = id "e"; given = None; mode = PassiveElem; elements = Indices [] }) ∷ func None (ins (rows.Init rows.Tables rows.Elems) (0xFC ∷ 0x0C ∷ []) "table.init" (OptionalThen (Some (num 1)) (says "e")) ∷ []) ∷ [])
      (one_function ++ (0x04 ∷ 0x07 ∷ 0x02 ∷ 0x70 ∷ 0x00 ∷ 0x01 ∷ 0x70 ∷ 0x00 ∷ 0x01 ∷ 0x09 ∷ 0x04 ∷ 0x01 ∷ 0x01 ∷ 0x00 ∷ 0x00 ∷ 0x0A ∷ 0x08 ∷ 0x01 ∷ 0x06 ∷ 0x00 ∷ 0xFC ∷ 0x0C ∷ 0x00 ∷ 0x01 ∷ 0x0B ∷ []) ++ names 0x0B (0x08 ∷ 0x04 ∷ 0x01 ∷ 0x00 ∷ 0x01 ∷ 0x65 ∷ []))
  -- (module (table 1 funcref) (func call_indirect (param i32))): the type comes first
  pub indirect : Assembles (define None (Table one_funcref None) ∷ func None (ins rows.Indirect (0x11 ∷ []) "call_indirect" (Indirect (record { table = None; type_use = with_sig (i32 ∷ []) [] })) ∷ []) ∷ [])
      (0x01 ∷ 0x08 ∷ 0x02 ∷ 0x60 ∷ 0x00 ∷ 0x00 ∷ 0x60 ∷ 0x01 ∷ 0x7F ∷ 0x00 ∷ 0x03 ∷ 0x02 ∷ 0x01 ∷ 0x00 ∷ 0x04 ∷ 0x04 ∷ 0x01 ∷ 0x70 ∷ 0x00 ∷ 0x01 ∷ 0x0A ∷ 0x07 ∷ 0x01 ∷ 0x05 ∷ 0x00 ∷ 0x11 ∷ 0x01 ∷ 0x00 ∷ 0x0B ∷ [])
  -- (module (table 1 funcref) (table $u 1 funcref) (func table.copy table.copy $u 0))
  pub copies : Assembles (define None (Table one_funcref None) ∷ define (id "u") (Table one_funcref None) ∷ func None (ins (rows.Copy rows.Tables) (0xFC ∷ 0x0E ∷ []) "table.copy" (OptionalTwo None) ∷ ins (rows.Copy rows.Tables) (0xFC ∷ 0x0E ∷ []) "table.copy" (OptionalTwo (Some (says "u", num 0))) ∷ []) ∷ [])
      (one_function ++ (0x04 ∷ 0x07 ∷ 0x02 ∷ 0x70 ∷ 0x00 ∷ 0x01 ∷ 0x70 ∷ 0x00 ∷ 0x01 ∷ 0x0A ∷ 0x0C ∷ 0x01 ∷ 0x0A ∷ 0x00 ∷ 0xFC ∷ 0x0E ∷ 0x00 ∷ 0x00 ∷ 0xFC ∷ 0x0E ∷ 0x01 ∷ 0x00 ∷ 0x0B ∷ []) ++ names 0x0B (0x05 ∷ 0x04 ∷ 0x01 ∷ 0x01 ∷ 0x01 ∷ 0x75 ∷ []))
  -- (module (memory 1) (memory 1) (func i64.load 1 offset=8))
  pub other_memory : Assembles (define None (fields.Memory one_page) ∷ define None (fields.Memory one_page) ∷ func None (ins (rows.Mem 8) (0x29 ∷ []) "i64.load" (Memory (record { target = Some (target.Memory (num 1)); ordering = None; offset = 8; align = 8 })) ∷ []) ∷ [])
      (one_function ++ (0x05 ∷ 0x05 ∷ 0x02 ∷ 0x00 ∷ 0x01 ∷ 0x00 ∷ 0x01 ∷ 0x0A ∷ 0x08 ∷ 0x01 ∷ 0x06 ∷ 0x00 ∷ 0x29 ∷ 0x43 ∷ 0x01 ∷ 0x08 ∷ 0x0B ∷ []))
  -- (module (func select select (result i32)))
  pub select : Assembles (func None (ins rows.Plain (0x1B ∷ []) "select" (Types None) ∷ ins rows.Results (0x1C ∷ []) "select" (Types (Some (i32 ∷ []))) ∷ []) ∷ []) (one_function ++ (0x0A ∷ 0x08 ∷ 0x01 ∷ 0x06 ∷ 0x00 ∷ 0x1B ∷ 0x1C ∷ 0x01 ∷ 0x7F ∷ 0x0B ∷ []))
  -- (module (func block $a br_table 0 $a 1 end))
  pub branch_table : Assembles (func None (block 0x02 "block" (id "a") no_use ∷ ins rows.BrTable (0x0E ∷ []) "br_table" (LabelTable (num 0 ∷ says "a" ∷ []) (num 1)) ∷ end ∷ []) ∷ [])
      (one_function ++ (0x0A ∷ 0x0C ∷ 0x01 ∷ 0x0A ∷ 0x00 ∷ 0x02 ∷ 0x40 ∷ 0x0E ∷ 0x02 ∷ 0x00 ∷ 0x00 ∷ 0x01 ∷ 0x0B ∷ 0x0B ∷ []) ++ names 0x0D (0x03 ∷ 0x06 ∷ 0x01 ∷ 0x00 ∷ 0x01 ∷ 0x00 ∷ 0x01 ∷ 0x61 ∷ []))
  -- (module (func block $l try delegate $l end)): the label is looked up where the try is closed
  pub delegate : Assembles (func None (block 0x02 "block" (id "l") no_use ∷ block 0x06 "try" None no_use ∷ ins (rows.Index rows.Labels) (0x18 ∷ []) "delegate" (One (says "l")) ∷ end ∷ []) ∷ [])
      (one_function ++ (0x0A ∷ 0x0B ∷ 0x01 ∷ 0x09 ∷ 0x00 ∷ 0x02 ∷ 0x40 ∷ 0x06 ∷ 0x40 ∷ 0x18 ∷ 0x00 ∷ 0x0B ∷ 0x0B ∷ []) ++ names 0x0D (0x03 ∷ 0x06 ∷ 0x01 ∷ 0x00 ∷ 0x01 ∷ 0x00 ∷ 0x01 ∷ 0x6C ∷ []))
  -- (module (type (struct)) (func ref.test (ref 0) ref.cast (ref null any) br_on_cast 0 anyref (ref 0)))
  pub casts : Assembles (TypeField (type_item None (StructType [])) ∷ func None (ins rows.Ref (0xFB ∷ 0x14 ∷ []) "ref.test" (Ref (record { nullable = false; heap_type = Concrete (num 0) })) ∷ ins rows.RefNull (0xFB ∷ 0x17 ∷ []) "ref.cast" (Ref (record { nullable = true; heap_type = any_heap })) ∷ ins rows.Cast (0xFB ∷ 0x18 ∷ []) "br_on_cast" (Cast (record { label = num 0; source = record { nullable = true; heap_type = any_heap }; target = record { nullable = false; heap_type = Concrete (num 0) } })) ∷ []) ∷ [])
      (0x01 ∷ 0x06 ∷ 0x02 ∷ 0x5F ∷ 0x00 ∷ 0x60 ∷ 0x00 ∷ 0x00 ∷ 0x03 ∷ 0x02 ∷ 0x01 ∷ 0x01 ∷ 0x0A ∷ 0x10 ∷ 0x01 ∷ 0x0E ∷ 0x00 ∷ 0xFB ∷ 0x14 ∷ 0x00 ∷ 0xFB ∷ 0x17 ∷ 0x6E ∷ 0xFB ∷ 0x18 ∷ 0x01 ∷ 0x00 ∷ 0x6E ∷ 0x00 ∷ 0x0B ∷ [])
  -- (module (func atomic.fence atomic.fence seq_cst)), and one of another ordering
  pub fences : Assembles (func None (ins rows.Fence (0xFE ∷ 0x03 ∷ []) "atomic.fence" (Fence None) ∷ ins rows.Fence (0xFE ∷ 0x03 ∷ []) "atomic.fence" (Fence (Some SeqCst)) ∷ []) ∷ []) (one_function ++ (0x0A ∷ 0x0A ∷ 0x01 ∷ 0x08 ∷ 0x00 ∷ 0xFE ∷ 0x03 ∷ 0x00 ∷ 0xFE ∷ 0x03 ∷ 0x00 ∷ 0x0B ∷ []))
  pub other_fence : IsUncovered (func None (ins rows.Fence (0xFE ∷ 0x03 ∷ []) "atomic.fence" (Fence (Some AcqRel)) ∷ []) ∷ []) 0 "atomic.fence"
  -- (module (func ref.null cont)): a form in an instruction is called by the mnemonic
  pub null_continuation : IsUncovered (func None (ins rows.Heap (0xD0 ∷ []) "ref.null" (Heap (Abstract false Cont)) ∷ []) ∷ []) 0 "ref.null"
  -- (module (func v128.const f64x2 1 2))
  pub float_lanes : IsUncovered (func None (ins rows.V128 (0xFD ∷ 0x0C ∷ []) "v128.const" (Lanes (Floats w64 (codes "1" ∷ codes "2" ∷ []))) ∷ []) ∷ []) 0 "v128.const"
