-- Trees and binaries, by hand.
use Rattle.std.specs.Prelude.{ℕ, pos, negsuc, true, false, List, [], ◌∷◌, ◌++◌, Some, None, codes}
use Rattle.wasm_encoder_base.specs.OperandSyntax as rows
use Rattle.wast_value_types.specs.ValueTree.{Cont, Abstract, Exact, Ref}
use Rattle.wast_signatures.specs.TypeTree.{FuncType, StructType}
use Rattle.wast_typed_operands.specs.TypedTree.{CatchTag}
use Rattle.wast_mnemonics.specs.Heads.{Unlisted}
use Rattle.wast_core_instr.specs.InstructionTree.{NoOperands, TryTable, One, Float, Memory}
use Rattle.wast_customs.specs.CustomTree.{Func as FuncAnchor, Elem as ElemAnchor, Code as CodeAnchor, Data as DataAnchor, Before, After, AfterLast, BeforeFirst, Sdk, ProducersField, DylinkField, Needed}
use Rattle.wast_imports.specs.ImportTree.{OfFunc, OfGlobal, Group1, Group2}
use Rattle.wast_exports.specs.Exports as exports
use Rattle.wast_data.specs.DataTree.{Text}
use Rattle.wast_field_syntax.specs.FieldTree as fields
use Rattle.wast_field_syntax.specs.FieldTree.{Indices, TableOf, MemoryOf, Tag, Table, ActiveElem, PassiveData, ActiveData, TypeField, RecField, ImportField, Define, ExportField, ElemField, DataField, CustomField}
use Rattle.wast_grammar.specs.Spelling.{same_name}
use Rattle.wast_meaning.specs.Numbered.{resolved}
use Rattle.wasm_layout.specs.IsModule.{IsModule}
use Rattle.wast_meant.specs.Binary.{in_bytes}
use Rattle.wast_meant.specs.Meaning.{FieldsMean, meant}
use Rattle.wast_meaning.specs.Made.{is_made}
use Rattle.wast_meant.specs.ExampleTrees.{Tree, fresh, id, says, num, i32, i64, ref, funcref, local, unnamed, sig, no_use, with_sig, definition, type_item, one_page, one_funcref, ins, plain, const, end, block, expr, define, func_of, func, typed, item, import, custom, Assembles, IsUncovered}

-- the type without parameters and results, a function of it, and the same with code
abbrev pub one_type : List ℕ
one_type = 0x01 ∷ 0x04 ∷ 0x01 ∷ 0x60 ∷ 0x00 ∷ 0x00 ∷ []

abbrev pub one_function : List ℕ
one_function = one_type ++ (0x03 ∷ 0x02 ∷ 0x01 ∷ 0x00 ∷ [])

abbrev pub empty_code : List ℕ
empty_code = 0x0A ∷ 0x04 ∷ 0x01 ∷ 0x02 ∷ 0x00 ∷ 0x0B ∷ []

-- a section of names, with its size
abbrev pub names : ℕ → List ℕ → List ℕ
names size bytes = (0x00 ∷ size ∷ 0x04 ∷ []) ++ (codes "name" ++ bytes)

-- (module (func $f))
abbrev pub only_f : List Tree
only_f = func (id "f") [] ∷ []

pub record MeaningExamples : Type 0 where
  -- (module)
  pub nothing : Assembles [] []
  -- (module (func $f))
  pub named_function : Assembles only_f (one_function ++ empty_code ++ names 0x0B (0x01 ∷ 0x04 ∷ 0x01 ∷ 0x00 ∷ 0x01 ∷ 0x66 ∷ []))
  -- (module (func (result i32) (i32.add (i32.const 1) (i32.const 2))))
  pub sum : Assembles (define None (func_of (with_sig [] (i32 ∷ [])) [] (const (pos 1) ∷ const (pos 2) ∷ plain 0x6A "i32.add" ∷ []) []) ∷ [])
      (0x01 ∷ 0x05 ∷ 0x01 ∷ 0x60 ∷ 0x00 ∷ 0x01 ∷ 0x7F ∷ 0x03 ∷ 0x02 ∷ 0x01 ∷ 0x00 ∷ 0x0A ∷ 0x09 ∷ 0x01 ∷ 0x07 ∷ 0x00 ∷ 0x41 ∷ 0x01 ∷ 0x41 ∷ 0x02 ∷ 0x6A ∷ 0x0B ∷ [])
  -- (module (func i32.const 1 (@metadata.code.branch_hint "\01") if end))
  pub hint : Assembles (define None (func_of no_use [] (const (pos 1) ∷ block 0x04 "if" None no_use ∷ end ∷ []) (record { index = 1; value = 1 } ∷ [])) ∷ [])
      (one_function ++ (0x00 ∷ 0x20 ∷ 0x19 ∷ []) ++ codes "metadata.code.branch_hint" ++ (0x01 ∷ 0x00 ∷ 0x01 ∷ 0x03 ∷ 0x01 ∷ 0x01 ∷ 0x0A ∷ 0x09 ∷ 0x01 ∷ 0x07 ∷ 0x00 ∷ 0x41 ∷ 0x01 ∷ 0x04 ∷ 0x40 ∷ 0x0B ∷ 0x0B ∷ []))
  -- (module (memory (data "ab")))
  pub inline_data : Assembles (define None (MemoryOf false None (Text (codes "ab") ∷ [])) ∷ [])
      (0x05 ∷ 0x04 ∷ 0x01 ∷ 0x01 ∷ 0x01 ∷ 0x01 ∷ 0x0B ∷ 0x08 ∷ 0x01 ∷ 0x00 ∷ 0x41 ∷ 0x00 ∷ 0x0B ∷ 0x02 ∷ 0x61 ∷ 0x62 ∷ [])
  -- (module (memory i64 (data "ab")))
  pub wide_data : Assembles (define None (MemoryOf true None (Text (codes "ab") ∷ [])) ∷ [])
      (0x05 ∷ 0x04 ∷ 0x01 ∷ 0x05 ∷ 0x01 ∷ 0x01 ∷ 0x0B ∷ 0x08 ∷ 0x01 ∷ 0x00 ∷ 0x42 ∷ 0x00 ∷ 0x0B ∷ 0x02 ∷ 0x61 ∷ 0x62 ∷ [])
  -- (module (memory 1) (data "a") (func data.drop 0))
  pub data_count : Assembles (define None (fields.Memory one_page) ∷ DataField (record { place = 0; id = None; given = None; mode = PassiveData; values = Text (codes "a") ∷ [] }) ∷ func None (ins (rows.Index rows.Datas) (0xFC ∷ 0x09 ∷ []) "data.drop" (One (num 0)) ∷ []) ∷ [])
      (one_function ++ (0x05 ∷ 0x03 ∷ 0x01 ∷ 0x00 ∷ 0x01 ∷ 0x0C ∷ 0x01 ∷ 0x01 ∷ 0x0A ∷ 0x07 ∷ 0x01 ∷ 0x05 ∷ 0x00 ∷ 0xFC ∷ 0x09 ∷ 0x00 ∷ 0x0B ∷ 0x0B ∷ 0x04 ∷ 0x01 ∷ 0x01 ∷ 0x01 ∷ 0x61 ∷ []))
  -- (module (import "m" (item "a" (func)) (item "b" (global i32))))
  pub group_of_items : Assembles (ImportField (record { place = 0; from = codes "m"; items = Group1 ((codes "a", item (OfFunc no_use)) ∷ (codes "b", item (OfGlobal (record { val_type = i32; mutable = false; shared = false }))) ∷ []) }) ∷ [])
      (one_type ++ (0x02 ∷ 0x0F ∷ 0x01 ∷ 0x01 ∷ 0x6D ∷ 0x00 ∷ 0x7F ∷ 0x02 ∷ 0x01 ∷ 0x61 ∷ 0x00 ∷ 0x00 ∷ 0x01 ∷ 0x62 ∷ 0x03 ∷ 0x7F ∷ 0x00 ∷ []))
  -- (module (import "m" (item "a") (item "b") (func)))
  pub group_of_names : Assembles (ImportField (record { place = 0; from = codes "m"; items = Group2 (codes "a" ∷ codes "b" ∷ []) (item (OfFunc no_use)) }) ∷ [])
      (one_type ++ (0x02 ∷ 0x0C ∷ 0x01 ∷ 0x01 ∷ 0x6D ∷ 0x00 ∷ 0x7E ∷ 0x00 ∷ 0x00 ∷ 0x02 ∷ 0x01 ∷ 0x61 ∷ 0x01 ∷ 0x62 ∷ []))
  -- (module (type $t (struct)) (func (param (ref $t))) (func (param (ref 0))))
  pub two_implied : Assembles (TypeField (type_item (id "t") (StructType [])) ∷ typed (with_sig (ref (says "t") ∷ []) []) ∷ typed (with_sig (ref (num 0) ∷ []) []) ∷ [])
      ((0x01 ∷ 0x0D ∷ 0x03 ∷ 0x5F ∷ 0x00 ∷ 0x60 ∷ 0x01 ∷ 0x64 ∷ 0x00 ∷ 0x00 ∷ 0x60 ∷ 0x01 ∷ 0x64 ∷ 0x00 ∷ 0x00 ∷ 0x03 ∷ 0x03 ∷ 0x02 ∷ 0x01 ∷ 0x02 ∷ 0x0A ∷ 0x07 ∷ 0x02 ∷ 0x02 ∷ 0x00 ∷ 0x0B ∷ 0x02 ∷ 0x00 ∷ 0x0B ∷ [])
      ++ names 0x0B (0x04 ∷ 0x04 ∷ 0x01 ∷ 0x00 ∷ 0x01 ∷ 0x74 ∷ []))
  -- (module (func (param i32)) (func) (func (param i32)))
  pub shared_implied : Assembles (typed (with_sig (i32 ∷ []) []) ∷ typed no_use ∷ typed (with_sig (i32 ∷ []) []) ∷ [])
      (0x01 ∷ 0x08 ∷ 0x02 ∷ 0x60 ∷ 0x01 ∷ 0x7F ∷ 0x00 ∷ 0x60 ∷ 0x00 ∷ 0x00 ∷ 0x03 ∷ 0x04 ∷ 0x03 ∷ 0x00 ∷ 0x01 ∷ 0x00 ∷ 0x0A ∷ 0x0A ∷ 0x03 ∷ 0x02 ∷ 0x00 ∷ 0x0B ∷ 0x02 ∷ 0x00 ∷ 0x0B ∷ 0x02 ∷ 0x00 ∷ 0x0B ∷ [])
  -- (module (tag $e) (func try_table (catch $e 0) end))
  pub catch : Assembles (define (id "e") (Tag no_use) ∷ func None (ins rows.TryTable (0x1F ∷ []) "try_table" (TryTable (record { block = record { label = None; type_use = no_use }; catches = CatchTag (says "e") (num 0) ∷ [] })) ∷ end ∷ []) ∷ [])
      (one_function ++ (0x0D ∷ 0x03 ∷ 0x01 ∷ 0x00 ∷ 0x00 ∷ 0x0A ∷ 0x0B ∷ 0x01 ∷ 0x09 ∷ 0x00 ∷ 0x1F ∷ 0x40 ∷ 0x01 ∷ 0x00 ∷ 0x00 ∷ 0x00 ∷ 0x0B ∷ 0x0B ∷ []) ++ names 0x0B (0x0B ∷ 0x04 ∷ 0x01 ∷ 0x00 ∷ 0x01 ∷ 0x65 ∷ []))
  -- (module (func) (@custom "x" (before func) "ab"))
  pub custom_before : Assembles (func None [] ∷ custom "x" (Before FuncAnchor) (codes "ab") ∷ []) (one_type ++ (0x00 ∷ 0x04 ∷ 0x01 ∷ 0x78 ∷ 0x61 ∷ 0x62 ∷ 0x03 ∷ 0x02 ∷ 0x01 ∷ 0x00 ∷ []) ++ empty_code)
  -- (module (memory 1) (func i32.const 0 i32.load align=32768 drop))
  pub alignment : Assembles (define None (fields.Memory one_page) ∷ func None (const (pos 0) ∷ ins (rows.Mem 4) (0x28 ∷ []) "i32.load" (Memory (record { target = None; ordering = None; offset = 0; align = 32768 })) ∷ plain 0x1A "drop" ∷ []) ∷ [])
      (one_function ++ (0x05 ∷ 0x03 ∷ 0x01 ∷ 0x00 ∷ 0x01 ∷ 0x0A ∷ 0x0A ∷ 0x01 ∷ 0x08 ∷ 0x00 ∷ 0x41 ∷ 0x00 ∷ 0x28 ∷ 0x0F ∷ 0x00 ∷ 0x1A ∷ 0x0B ∷ []))
  -- (module (func i32.const -2147483648 drop))
  pub least : Assembles (func None (const (negsuc 2147483647) ∷ plain 0x1A "drop" ∷ []) ∷ []) (one_function ++ (0x0A ∷ 0x0B ∷ 0x01 ∷ 0x09 ∷ 0x00 ∷ 0x41 ∷ 0x80 ∷ 0x80 ∷ 0x80 ∷ 0x80 ∷ 0x78 ∷ 0x1A ∷ 0x0B ∷ []))
  -- (module (func block $l br $l end))
  pub label : Assembles (func None (block 0x02 "block" (id "l") no_use ∷ ins (rows.Index rows.Labels) (0x0C ∷ []) "br" (One (says "l")) ∷ end ∷ []) ∷ [])
      (one_function ++ (0x0A ∷ 0x09 ∷ 0x01 ∷ 0x07 ∷ 0x00 ∷ 0x02 ∷ 0x40 ∷ 0x0C ∷ 0x00 ∷ 0x0B ∷ 0x0B ∷ []) ++ names 0x0D (0x03 ∷ 0x06 ∷ 0x01 ∷ 0x00 ∷ 0x01 ∷ 0x00 ∷ 0x01 ∷ 0x6C ∷ []))
  -- (module (func $f) (table funcref (elem $f)))
  pub inline_elements : Assembles (func (id "f") [] ∷ define None (TableOf false funcref (Indices (says "f" ∷ []))) ∷ [])
      (one_function ++ (0x04 ∷ 0x05 ∷ 0x01 ∷ 0x70 ∷ 0x01 ∷ 0x01 ∷ 0x01 ∷ 0x09 ∷ 0x09 ∷ 0x01 ∷ 0x02 ∷ 0x00 ∷ 0x41 ∷ 0x00 ∷ 0x0B ∷ 0x00 ∷ 0x01 ∷ 0x00 ∷ []) ++ empty_code ++ names 0x0B (0x01 ∷ 0x04 ∷ 0x01 ∷ 0x00 ∷ 0x01 ∷ 0x66 ∷ []))
  -- (module (type (sub (func)))), and (module (rec (type (func))))
  pub open_type : Assembles (TypeField (record (type_item None (FuncType (sig [] []))) { definition = record (definition (FuncType (sig [] []))) { is_final = false } }) ∷ []) (0x01 ∷ 0x06 ∷ 0x01 ∷ 0x50 ∷ 0x00 ∷ 0x60 ∷ 0x00 ∷ 0x00 ∷ [])
  pub group : Assembles (RecField (record { place = 0; types = type_item None (FuncType (sig [] [])) ∷ [] }) ∷ []) (0x01 ∷ 0x06 ∷ 0x01 ∷ 0x4E ∷ 0x01 ∷ 0x60 ∷ 0x00 ∷ 0x00 ∷ [])
  -- (module (func (param i32 i32) (result i32) local.get 0 local.get 1 i32.add) (export "f" (func 0)))
  pub export : Assembles (define None (func_of (with_sig (i32 ∷ i32 ∷ []) (i32 ∷ [])) [] (ins (rows.Index rows.Locals) (0x20 ∷ []) "local.get" (One (num 0)) ∷ ins (rows.Index rows.Locals) (0x20 ∷ []) "local.get" (One (num 1)) ∷ plain 0x6A "i32.add" ∷ []) []) ∷ ExportField (record { place = 0; name = codes "f"; kind = exports.Func; item = num 0 }) ∷ [])
      (0x01 ∷ 0x07 ∷ 0x01 ∷ 0x60 ∷ 0x02 ∷ 0x7F ∷ 0x7F ∷ 0x01 ∷ 0x7F ∷ 0x03 ∷ 0x02 ∷ 0x01 ∷ 0x00 ∷ 0x07 ∷ 0x05 ∷ 0x01 ∷ 0x01 ∷ 0x66 ∷ 0x00 ∷ 0x00 ∷ 0x0A ∷ 0x09 ∷ 0x01 ∷ 0x07 ∷ 0x00 ∷ 0x20 ∷ 0x00 ∷ 0x20 ∷ 0x01 ∷ 0x6A ∷ 0x0B ∷ [])
  -- (module (memory 1) (data (offset (block (result i32) (i32.const 0))) "a"))
  pub block_in_offset : Assembles (define None (fields.Memory one_page) ∷ DataField (record { place = 0; id = None; given = None; mode = ActiveData None (expr (block 0x02 "block" None (with_sig [] (i32 ∷ [])) ∷ const (pos 0) ∷ end ∷ [])); values = Text (codes "a") ∷ [] }) ∷ [])
      (0x05 ∷ 0x03 ∷ 0x01 ∷ 0x00 ∷ 0x01 ∷ 0x0B ∷ 0x0A ∷ 0x01 ∷ 0x00 ∷ 0x02 ∷ 0x7F ∷ 0x41 ∷ 0x00 ∷ 0x0B ∷ 0x0B ∷ 0x01 ∷ 0x61 ∷ [])
  -- (module (func $f) (@custom "name" ""))
  pub own_names : Assembles (func (id "f") [] ∷ custom "name" AfterLast [] ∷ []) (one_function ++ empty_code ++ names 0x05 [])
  -- (module (func (local i32 i32 i64)))
  pub locals : Assembles (define None (func_of no_use (unnamed (i32 ∷ i32 ∷ i64 ∷ [])) [] []) ∷ []) (one_function ++ (0x0A ∷ 0x08 ∷ 0x01 ∷ 0x06 ∷ 0x02 ∷ 0x02 ∷ 0x7F ∷ 0x01 ∷ 0x7E ∷ 0x0B ∷ []))
  -- (module (func $f (@name "g")))
  pub name_wins : Assembles (Define (record { place = 0; id = id "f"; given = Some (codes "g"); exports = []; defined = func_of no_use [] [] [] }) ∷ []) (one_function ++ empty_code ++ names 0x0B (0x01 ∷ 0x04 ∷ 0x01 ∷ 0x00 ∷ 0x01 ∷ 0x67 ∷ []))
  -- (module (import "" "" (func (param $x i32))))
  pub unnamed_import : Assembles (import (OfFunc (record { index = None; inline = Some (record { params = local (id "x") i32 ∷ []; results = [] }) })) ∷ []) (0x01 ∷ 0x05 ∷ 0x01 ∷ 0x60 ∷ 0x01 ∷ 0x7F ∷ 0x00 ∷ 0x02 ∷ 0x05 ∷ 0x01 ∷ 0x00 ∷ 0x00 ∷ 0x00 ∷ 0x00 ∷ [])
  -- (module (tag (param $x i32)))
  pub tag_parameter : Assembles (define None (Tag (record { index = None; inline = Some (record { params = local (id "x") i32 ∷ []; results = [] }) })) ∷ [])
      ((0x01 ∷ 0x05 ∷ 0x01 ∷ 0x60 ∷ 0x01 ∷ 0x7F ∷ 0x00 ∷ 0x0D ∷ 0x03 ∷ 0x01 ∷ 0x00 ∷ 0x00 ∷ []) ++ names 0x0D (0x0D ∷ 0x06 ∷ 0x01 ∷ 0x00 ∷ 0x01 ∷ 0x00 ∷ 0x01 ∷ 0x78 ∷ []))
  -- (module (@producers (sdk "a" "1")))
  pub producers : Assembles (CustomField (ProducersField (record { place = 0; fields = record { kind = Sdk; name = codes "a"; version = codes "1" } ∷ [] })) ∷ [])
      ((0x00 ∷ 0x14 ∷ 0x09 ∷ []) ++ codes "producers" ++ (0x01 ∷ 0x03 ∷ []) ++ codes "sdk" ++ (0x01 ∷ 0x01 ∷ 0x61 ∷ 0x01 ∷ 0x31 ∷ []))
  -- (module (@custom "b" (before first)) (@dylink.0 (needed "a")))
  pub dylink : Assembles (custom "b" BeforeFirst [] ∷ CustomField (DylinkField (record { place = 0; subsections = Needed (codes "a" ∷ []) ∷ [] })) ∷ [])
      ((0x00 ∷ 0x02 ∷ 0x01 ∷ 0x62 ∷ 0x00 ∷ 0x0E ∷ 0x08 ∷ []) ++ codes "dylink.0" ++ (0x02 ∷ 0x03 ∷ 0x01 ∷ 0x01 ∷ 0x61 ∷ []))
  -- (module (@custom "h" (before code)) (func nop) (@custom "k" (after data)) (@custom "g" (after elem)) (@custom "z")), the function with a hint and a name
  pub gaps : Assembles (custom "h" (Before CodeAnchor) [] ∷ define (id "f") (func_of no_use [] (plain 0x01 "nop" ∷ []) (record { index = 0; value = 0 } ∷ [])) ∷ custom "k" (After DataAnchor) [] ∷ custom "g" (After ElemAnchor) [] ∷ custom "z" AfterLast [] ∷ [])
      (one_function ++ (0x00 ∷ 0x02 ∷ 0x01 ∷ 0x67 ∷ 0x00 ∷ 0x02 ∷ 0x01 ∷ 0x68 ∷ 0x00 ∷ 0x20 ∷ 0x19 ∷ []) ++ codes "metadata.code.branch_hint" ++ (0x01 ∷ 0x00 ∷ 0x01 ∷ 0x01 ∷ 0x01 ∷ 0x00 ∷ 0x0A ∷ 0x05 ∷ 0x01 ∷ 0x03 ∷ 0x00 ∷ 0x01 ∷ 0x0B ∷ 0x00 ∷ 0x02 ∷ 0x01 ∷ 0x6B ∷ []) ++ names 0x0B (0x01 ∷ 0x04 ∷ 0x01 ∷ 0x00 ∷ 0x01 ∷ 0x66 ∷ []) ++ (0x00 ∷ 0x02 ∷ 0x01 ∷ 0x7A ∷ []))
  -- (module (func) (elem (table 0) (i32.const 0) func 0)) with a table, and the same without (table 0)
  pub table_written : Assembles (func None [] ∷ define None (Table one_funcref None) ∷ ElemField (record { place = 0; id = None; given = None; mode = ActiveElem (Some (num 0)) (expr (const (pos 0) ∷ [])); elements = Indices (num 0 ∷ []) }) ∷ [])
      (one_function ++ (0x04 ∷ 0x04 ∷ 0x01 ∷ 0x70 ∷ 0x00 ∷ 0x01 ∷ 0x09 ∷ 0x09 ∷ 0x01 ∷ 0x02 ∷ 0x00 ∷ 0x41 ∷ 0x00 ∷ 0x0B ∷ 0x00 ∷ 0x01 ∷ 0x00 ∷ []) ++ empty_code)
  pub table_left_out : Assembles (func None [] ∷ define None (Table one_funcref None) ∷ ElemField (record { place = 0; id = None; given = None; mode = ActiveElem None (expr (const (pos 0) ∷ [])); elements = Indices (num 0 ∷ []) }) ∷ [])
      (one_function ++ (0x04 ∷ 0x04 ∷ 0x01 ∷ 0x70 ∷ 0x00 ∷ 0x01 ∷ 0x09 ∷ 0x07 ∷ 0x01 ∷ 0x00 ∷ 0x41 ∷ 0x00 ∷ 0x0B ∷ 0x01 ∷ 0x00 ∷ []) ++ empty_code)
  -- (module (func f32.const 1 drop)), the word func at 9
  pub float : IsUncovered (Define (record { place = 9; id = None; given = None; exports = []; defined = func_of no_use [] (ins rows.F32 (0x43 ∷ []) "f32.const" (Float (codes "1")) ∷ plain 0x1A "drop" ∷ []) [] }) ∷ []) 9 "f32.const"
  -- (module (func pause))
  pub pause : IsUncovered (func None (record { head = Unlisted (codes "pause"); operands = NoOperands } ∷ []) ∷ []) 0 "pause"
  -- (module (func (param contref)))
  pub continuation : IsUncovered (typed (with_sig (Ref (record { nullable = true; heap_type = Abstract false Cont }) ∷ []) []) ∷ []) 0 "cont type"
  -- a table of exact references that stand inline: the table comes before its segment
  pub inline_exact : IsUncovered (Define (record { place = 7; id = None; given = None; exports = []; defined = TableOf false (record { nullable = true; heap_type = Exact (num 0) }) (Indices []) }) ∷ []) 7 "exact type"
  -- something stands for a module, whose numbers are in range
  pub stands : FieldsMean same_name is_made (fresh only_f) None only_f (meant same_name is_made None (resolved same_name (fresh only_f) only_f))
  pub is_module : IsModule (in_bytes (meant same_name is_made None (resolved same_name (fresh only_f) only_f)))
