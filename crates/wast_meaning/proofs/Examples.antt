-- Worked examples, computed: what is written out, what names mean, what is implied, demands in their order, breaches, numbers.
use Rattle.std.specs.Prelude.{ℕ, List, pos, true, false, ◌≡◌, [], ◌∷◌, map, Option, Some, None, codes}
use Rattle.std.proofs.Common.{refl}
use Rattle.wasm_encoder_base.specs.Uncovered as uncovered
use Rattle.wasm_encoder_base.specs.Table.{Functions, Datas}
use Rattle.wast_parser.specs.Identifiers.{Reference, ByNumber, ByName}
use Rattle.wast_parser.specs.Problem.{Problem}
use Rattle.wast_names.specs.Demand.{ImportAfter, Duplicate, Unknown, TypeMismatch, LabelMismatch, words}
use Rattle.wast_field_syntax.specs.ValueTree.{Concrete, Packed, I8, Value}
use Rattle.wast_field_syntax.specs.TypeTree.{FuncType, StructType}
use Rattle.wast_field_syntax.specs.OperandTree.{SeqCst, OnLabel}
use Rattle.wast_field_syntax.specs.TypedTree.{CatchTag, CatchAll}
use Rattle.wast_field_syntax.specs.InstructionTree.{One, Two, Ordered, Resume}
use Rattle.wast_exports.specs.Exports as exports
use Rattle.wast_imports.specs.ImportTree.{OfFunc, OfTag, Single, Group1, Group2}
use Rattle.wast_field_syntax.specs.DataTree.{Text}
use Rattle.wast_field_syntax.specs.FieldTree.{Global, Field, Indices, Expressions, Imported, Func, Table, TableOf, Memory, MemoryOf, Tag, TypeField, ImportField, Content, Fields, Module}
use Rattle.wast_meaning.specs.Written.{pages, exactly, zero_offset, written_out, by_counter}
use Rattle.wast_meaning.specs.Spaces.{space_word, fields_at, denotes, listed}
use Rattle.wast_meaning.specs.Scope.{label_space}
use Rattle.wast_meaning.specs.Demands.{definition_word}
use Rattle.wast_meaning.specs.WellFormed.{first_breach}
use Rattle.wast_meaning.specs.Numbered.{numbered, resolved}
use Rattle.wast_meaning.specs.Fresh.{is_fresh}
use Rattle.wast_meaning.specs.Modules.{module_breaches}
use Rattle.wast_grammar.specs.Spelling.{same_name}
use Rattle.wast_meaning.proofs.Words.{W, param, sub, group, imports, a_func, data_of, elem_of, is_made, made, name, id, says, num, i32, i64, ref, funcref, local, sig, no_use, written, typed, item, shared_type, type, func_type, struct_field, table_1, memory_1, global_1, nop, drop, const, call, br, local_get, elem_drop, data_drop, struct_get, call_indirect, block_of, block, try, delegate, try_table, else_of, end_of, end, load, unlisted, expr, hinted, at, define, function, func, body, of_type, import_func, export, start, segment, elems, data_at, elem_at, IsUnmet, IsMet, BothUnmet, SameNumbers, Breaks, Implies}

-- WRITTEN OUT
-- (memory (data "ab")): one page, and the segment at 0 of the memory, which is called something
memory_with_data : written_out made (at 7 None [] (MemoryOf false None (Text (codes "ab") ∷ [])) ∷ [])
    ≡ at 7 (Some (made 0, 7)) [] (Memory (record { limits = exactly false 1; shared = false; page = None }))
    ∷ data_of 7 (ByName (made 0, 7)) (zero_offset false) (Text (codes "ab") ∷ [])
    ∷ []
memory_with_data = refl

-- (memory $m (export "e") i64 (pagesize 1) (data "ab")): its own name; the export before the segment; pages of one byte
memory_with_all : written_out made (at 7 (id 14 "m") (codes "e" ∷ []) (MemoryOf true (Some 0) (Text (codes "ab") ∷ [])) ∷ [])
    ≡ at 7 (id 14 "m") [] (Memory (record { limits = exactly true 2; shared = false; page = Some 0 }))
    ∷ export 7 "e" exports.Memory (says 14 "m")
    ∷ data_of 7 (says 14 "m") (zero_offset true) (Text (codes "ab") ∷ [])
    ∷ []
memory_with_all = refl

-- no page for no bytes; rounded up
page_counts : map (pages None) (0 ∷ 1 ∷ 65536 ∷ 65537 ∷ []) ≡ 0 ∷ 1 ∷ 1 ∷ 2 ∷ []
page_counts = refl

small_pages : map (pages (Some 4)) (0 ∷ 16 ∷ 17 ∷ []) ≡ 0 ∷ 1 ∷ 2 ∷ []
small_pages = refl

-- (func $f) (table funcref (elem $f)): the second field
table_with_elements : written_out made (func (id 6 "f") [] ∷ at 10 None [] (TableOf false funcref (Indices (says 31 "f" ∷ []))) ∷ [])
    ≡ func (id 6 "f") []
    ∷ at 10 (Some (made 1, 10)) [] (Table (record { limits = exactly false 1; shared = false; element = funcref }) None)
    ∷ elem_of 10 (ByName (made 1, 10)) (zero_offset false) (Indices (says 31 "f" ∷ []))
    ∷ []
table_with_elements = refl

-- (func (export "e") (import "" "")), (func (export "a") (export "b")): one name for each
exported_twice : written_out made (at 1 None (codes "e" ∷ []) (Imported [] [] (OfFunc no_use)) ∷ at 9 None (codes "a" ∷ codes "b" ∷ []) (Tag no_use) ∷ [])
    ≡ ImportField (record { place = 1; from = []; items = Single [] (record { place = 1; id = Some (made 0, 1); given = None; extern_type = OfFunc no_use }) })
    ∷ export 1 "e" exports.Func (ByName (made 0, 1))
    ∷ at 9 (Some (made 1, 9)) [] (Tag no_use)
    ∷ export 9 "a" exports.Tag (ByName (made 1, 9))
    ∷ export 9 "b" exports.Tag (ByName (made 1, 9))
    ∷ []
exported_twice = refl

-- a counter goes up only where a name is made
counted : map (by_counter made 5 (body [] ∷ at 1 None (codes "e" ∷ []) (Tag no_use) ∷ at 9 None (codes "a" ∷ []) (Tag no_use) ∷ [])) (1 ∷ 2 ∷ [])
    ≡ made 5 ∷ made 6 ∷ []
counted = refl

-- the fresh names of the same fields are fresh beside other names, and not beside one of them
fresh : is_fresh same_name made (func (id 0 "e") (call (ByName (made 5, 0)) ∷ []) ∷ at 1 None (codes "e" ∷ []) (Tag no_use) ∷ []) ≡ true
fresh = refl

not_fresh : is_fresh same_name made (func (id 0 "e") (call (ByName (made 1, 0)) ∷ []) ∷ at 1 None (codes "e" ∷ []) (Tag no_use) ∷ []) ≡ false
not_fresh = refl

-- WHAT NAMES MEAN
-- (import "" (item "a" (func $a)) (item "b" (func $b))) (func $c)
after_imports : denotes same_name
    (ImportField (record {
      place = 0;
      from = [];
      items = Group1 (
          (codes "a", a_func (id 0 "a"))
          ∷ (codes "b", a_func (id 0 "b"))
          ∷ []);
    })
    ∷ define (id 0 "c") (Tag no_use) ∷ func (id 0 "c") [] ∷ [])
    Functions (name "c") ≡ Some 2
after_imports = refl

-- (import "" (item "a") (item "b") (func)) (func $c): one for each name
after_group : denotes same_name
    (imports (Group2 (codes "a" ∷ codes "b" ∷ []) (a_func None))
    ∷ func (id 0 "c") [] ∷ [])
    Functions (name "c") ≡ Some 2
after_group = refl

-- of functions the first, of segments the last
first_of_two : denotes same_name (func (id 0 "a") [] ∷ func (id 0 "a") [] ∷ []) Functions (name "a") ≡ Some 0
first_of_two = refl

last_of_two : denotes same_name (segment (id 0 "d") ∷ segment (id 0 "d") ∷ segment None ∷ []) Datas (name "d") ≡ Some 1
last_of_two = refl

-- (rec (type $s (struct)) (type $t (struct (field $a i32) (field $b i32))))
field_of_type : (listed same_name (fields_at
    (group (item (id 0 "s") (StructType []) ∷ item (id 0 "t") (StructType (struct_field 0 "a" ∷ struct_field 0 "b" ∷ [])) ∷ []) ∷ []) 1)).look (name "b")
    ≡ Some 1
field_of_type = refl

-- block $a block $b, then br: the instructions before it, the nearest first
label_outside : (label_space same_name (block (id 0 "b") ∷ block (id 0 "a") ∷ []) (br (num 0))).look (name "a") ≡ Some 1
label_outside = refl

-- block $a block end, block $a block $a end
label_around : (label_space same_name (end ∷ block None ∷ block (id 0 "a") ∷ []) (br (num 0))).look (name "a") ≡ Some 0
label_around = refl

label_shadowed : (label_space same_name (block (id 0 "a") ∷ block None ∷ block (id 0 "a") ∷ []) (br (num 0))).look (name "a") ≡ Some 0
label_shadowed = refl

-- block $l try, then delegate: counted from outside the try
label_of_delegate : (label_space same_name (try None ∷ block (id 0 "l") ∷ []) (delegate (num 0))).look (name "l") ≡ Some 0
label_of_delegate = refl

-- IMPLIED TYPES
-- (type $t (struct)) (func (param (ref $t))) (func (param (ref 0))): `$t` and `0` aren't equal as written
as_written : Implies (type (id 0 "t") (StructType []) ∷ of_type (written (ref (says 0 "t") ∷ []) []) ∷ of_type (written (ref (num 0) ∷ []) []) ∷ [])
    (sig (ref (says 0 "t") ∷ []) [] ∷ sig (ref (num 0) ∷ []) [] ∷ [])
as_written = refl

-- (func (param $x i32)) (func) (func (param i32)): each once, without names of parameters
each_once : Implies (of_type (param 0 "x") ∷ of_type no_use ∷ of_type (written (i32 ∷ []) []) ∷ [])
    (sig (i32 ∷ []) [] ∷ sig [] [] ∷ [])
each_once = refl

-- (func (result i32) block (param i64) end) (func (param i64)): its own use before its body
own_use_first : Implies (function (written [] (i32 ∷ [])) [] (block_of (written (i64 ∷ []) []) ∷ end ∷ []) ∷ of_type (written (i64 ∷ []) []) ∷ [])
    (sig [] (i32 ∷ []) ∷ sig (i64 ∷ []) [] ∷ [])
own_use_first = refl

-- block (result i32) implies none, with two results it does, as does each indirect call
short_blocks : Implies (
    type None (func_type [] [])
    ∷ body (block_of (written [] (i32 ∷ [])) ∷ end ∷ block_of (written [] (i32 ∷ i32 ∷ [])) ∷ end ∷ call_indirect None (written [] (i32 ∷ [])) ∷ [])
    ∷ [])
    (sig [] (i32 ∷ i32 ∷ []) ∷ sig [] (i32 ∷ []) ∷ [])
short_blocks = refl

-- (func) (type (func)): a plain type is taken wherever it stands
plain_type : Implies (body [] ∷ type None (func_type [] []) ∷ []) []
plain_type = refl

-- (rec (type (func))), (type (sub (func))), (type (sub final 0 (func))): none is plain
in_group : Implies (group (item None (func_type [] []) ∷ []) ∷ body [] ∷ []) (sig [] [] ∷ [])
in_group = refl

not_final : Implies (TypeField (sub false None None (func_type [] [])) ∷ body [] ∷ []) (sig [] [] ∷ [])
not_final = refl

with_supertype : Implies (TypeField (sub true (Some (num 0)) None (func_type [] [])) ∷ body [] ∷ []) (sig [] [] ∷ [])
with_supertype = refl

-- (type (shared (func (param i32)))) (func (param i32)): plain too
shared_plain : Implies (shared_type (func_type (i32 ∷ []) []) ∷ of_type (written (i32 ∷ []) []) ∷ []) []
shared_plain = refl

-- (table funcref (elem (item call_indirect))) (tag (param i32)) (import "" "" (func (param i64)))
in_elements : Implies (
    define None (TableOf false funcref (Expressions funcref (expr (call_indirect None no_use ∷ []) ∷ [])))
    ∷ define None (Tag (written (i32 ∷ []) []))
    ∷ [])
    (sig [] [] ∷ sig (i32 ∷ []) [] ∷ [])
in_elements = refl

-- FIRST DEMANDS: imports
-- (func) (import "" "" (func))
import_after_func : IsUnmet (body [] ∷ import_func 16 ∷ []) 16 (ImportAfter (codes "function"))
import_after_func = refl

-- (func) (memory 1) (import "" "" (func)): the nearest is told
import_after_memory : IsUnmet (body [] ∷ define None (Memory memory_1) ∷ import_func 27 ∷ []) 27 (ImportAfter (codes "memory"))
import_after_memory = refl

-- (func) (func (import "" "")): inline ones too, of which each is itself no definition
inline_import_after : IsUnmet (body [] ∷ at 16 None [] (Imported [] [] (OfFunc no_use)) ∷ []) 16 (ImportAfter (codes "function"))
inline_import_after = refl

-- (table 1 funcref) (import "" "" (func)), (global i32) (import "" "" (func)), (tag) (import "" "" (func))
import_after_table : IsUnmet (define None (Table table_1 None) ∷ import_func 20 ∷ []) 20 (ImportAfter (codes "table"))
import_after_table = refl

import_after_global : IsUnmet (define None global_1 ∷ import_func 14 ∷ []) 14 (ImportAfter (codes "global"))
import_after_global = refl

import_after_tag : IsUnmet (define None (Tag no_use) ∷ import_func 7 ∷ []) 7 (ImportAfter (codes "tag"))
import_after_tag = refl

imports_after_imports : IsMet (
    at 1 None [] (Imported [] [] (OfFunc no_use))
    ∷ type None (func_type [] [])
    ∷ export 0 "e" exports.Func (num 0)
    ∷ import_func 27
    ∷ [])
imports_after_imports = refl

-- (func call $x) (import "" "" (func)): before uses; (func $a) (func $a) (import "" "" (func)): before duplicates
import_before_use : IsUnmet (body (call (says 19 "x") ∷ []) ∷ import_func 24 ∷ []) 24 (ImportAfter (codes "function"))
import_before_use = refl

import_before_duplicate : IsUnmet (func (id 14 "a") [] ∷ func (id 24 "a") [] ∷ import_func 29 ∷ []) 29 (ImportAfter (codes "function"))
import_before_duplicate = refl

-- SECOND: duplicates
-- (func $a) (func $a)
func_twice : IsUnmet (func (id 14 "a") [] ∷ func (id 24 "a") [] ∷ []) 24 (Duplicate (codes "func"))
func_twice = refl

-- tables, memories, globals and tags alike, whether a segment stands inline or one is imported
table_twice : IsUnmet (define (id 7 "a") (Table table_1 None) ∷ define (id 27 "a") (Table table_1 None) ∷ []) 27 (Duplicate (codes "table"))
table_twice = refl

memory_twice : IsUnmet (define (id 8 "a") (Memory memory_1) ∷ define (id 21 "a") (MemoryOf false None []) ∷ []) 21 (Duplicate (codes "memory"))
memory_twice = refl

global_twice : IsUnmet (define (id 8 "a") global_1 ∷ define (id 24 "a") global_1 ∷ []) 24 (Duplicate (codes "global"))
global_twice = refl

tag_twice : IsUnmet (define (id 5 "a") (Imported [] [] (OfTag no_use)) ∷ define (id 30 "a") (Tag no_use) ∷ []) 30 (Duplicate (codes "tag"))
tag_twice = refl

-- (start $x) (func $a) (func $a): before uses
duplicate_before_use : IsUnmet (start 9 (says 15 "x") ∷ func (id 25 "a") [] ∷ func (id 35 "a") [] ∷ []) 35 (Duplicate (codes "func"))
duplicate_before_use = refl

-- (type $t (struct (field $a i32) (field $a i32))) (type $t (func)): a type, then its fields, then the next
field_twice : IsUnmet (
    type (id 14 "t") (StructType (struct_field 32 "a" ∷ struct_field 47 "a" ∷ []))
    ∷ type (id 63 "t") (func_type [] [])
    ∷ []) 47 (Duplicate (codes "field"))
field_twice = refl

type_twice : IsUnmet (
    type (id 14 "t") (func_type [] [])
    ∷ type (id 31 "t") (StructType (struct_field 49 "a" ∷ struct_field 64 "a" ∷ []))
    ∷ []) 31 (Duplicate (codes "type"))
type_twice = refl

-- a table and a function may be called the same, two segments too
other_spaces : IsMet (
    func (id 0 "a") []
    ∷ define (id 0 "a") (Memory memory_1)
    ∷ segment (id 0 "a")
    ∷ segment (id 0 "a")
    ∷ body (data_drop (says 0 "a") ∷ [])
    ∷ [])
other_spaces = refl

-- THIRD: uses, in order
-- (func call $x f32.const 1 drop), (start $x), (export "a" (func $x)) (func call $y)
unknown_func : IsUnmet (body (call (says 19 "x") ∷ drop ∷ []) ∷ []) 19 (Unknown (codes "func") (name "x"))
unknown_func = refl

unknown_start : IsUnmet (start 9 (says 15 "x") ∷ []) 15 (Unknown (codes "func") (name "x"))
unknown_start = refl

in_field_order : IsUnmet (export 9 "a" exports.Func (says 26 "x") ∷ body (call (says 43 "y") ∷ []) ∷ []) 26 (Unknown (codes "func") (name "x"))
in_field_order = refl

-- (table $t ..) (export "a" (func $t)): of another space
other_space : IsUnmet (define (id 0 "t") (Table table_1 None) ∷ export 0 "a" exports.Func (says 40 "t") ∷ []) 40 (Unknown (codes "func") (name "t"))
other_space = refl

-- (func call 7 local.get 9 br 5): numbers may be any
numbers : IsMet (body (call (num 7) ∷ local_get (num 9) ∷ br (num 5) ∷ []) ∷ [])
numbers = refl

-- (func (type $u) (local (ref $v))), (func (param $x i32) (local $x (ref $v))): the use, the types of locals, the names
use_before_locals : IsUnmet (function (typed (says 20 "u") None) (local None (ref (says 34 "v")) ∷ []) [] ∷ []) 20 (Unknown (codes "type") (name "u"))
use_before_locals = refl

types_before_names : IsUnmet (function (param 21 "x") (local (id 36 "x") (ref (says 44 "v")) ∷ []) [] ∷ []) 44 (Unknown (codes "type") (name "v"))
types_before_names = refl

-- (func (param $x i32) (local $x i32) call $y): the names before the instructions
local_twice : IsUnmet (function (param 21 "x") (local (id 36 "x") i32 ∷ []) (call (says 50 "y") ∷ []) ∷ []) 36 (Duplicate (codes "local"))
local_twice = refl

-- (func (local $x i32)) (func local.get $x): locals are those of the function
local_of_other : IsUnmet (function no_use (local (id 21 "x") i32 ∷ []) [] ∷ body (local_get (says 50 "x") ∷ []) ∷ []) 50 (Unknown (codes "local") (name "x"))
local_of_other = refl

-- (func call_indirect (type $u) $t): the table first
table_before_use : IsUnmet (body (call_indirect (Some (says 40 "t")) (typed (says 30 "u") None) ∷ []) ∷ []) 40 (Unknown (codes "table") (name "t"))
table_before_use = refl

-- (type $t (struct (field $a i32))) (func struct.get $t $a struct.get $t $b), struct.get $u $b: the type, then the field
field_unknown : IsUnmet (
    type (id 14 "t") (StructType (struct_field 32 "a" ∷ []))
    ∷ body (struct_get (says 60 "t") (says 63 "a") ∷ struct_get (says 70 "t") (says 73 "b") ∷ [])
    ∷ []) 73 (Unknown (codes "field") (name "b"))
field_unknown = refl

owner_before_field : IsUnmet (body (struct_get (says 60 "u") (says 63 "b") ∷ []) ∷ []) 60 (Unknown (codes "type") (name "u"))
owner_before_field = refl

-- (type $s (struct)) (type $t (struct (field $a i32))) (func struct.get $s $a): of another type
field_of_other : IsUnmet (
    type (id 0 "s") (StructType [])
    ∷ type (id 0 "t") (StructType (struct_field 0 "a" ∷ []))
    ∷ body (struct_get (says 0 "s") (says 63 "a") ∷ [])
    ∷ []) 63 (Unknown (codes "field") (name "a"))
field_of_other = refl

-- global.atomic.get seq_cst $g, struct.atomic.get seq_cst 0 $a, resume $c (on $e 0): what is refused later has names too
uncovered_index : IsUnmet (body (unlisted "global.atomic.get" (Ordered SeqCst (One (says 40 "g"))) ∷ []) ∷ []) 40 (Unknown (codes "global") (name "g"))
unfolding uncovered.uncovered
uncovered_index = refl

uncovered_field : IsUnmet (body (unlisted "struct.atomic.get" (Ordered SeqCst (Two (num 0) (says 40 "a"))) ∷ []) ∷ []) 40 (Unknown (codes "field") (name "a"))
unfolding uncovered.uncovered
uncovered_field = refl

uncovered_handler : IsUnmet (body (unlisted "resume" (Resume (num 0) (OnLabel (says 40 "e") (num 0) ∷ [])) ∷ []) ∷ []) 40 (Unknown (codes "tag") (name "e"))
unfolding uncovered.uncovered
uncovered_handler = refl

-- AGREEMENT
-- (type $t (func (param i32))) (func (type $t) (param i64)): at the index
types_differ : IsUnmet (type (id 14 "t") (func_type (i32 ∷ []) []) ∷ of_type (typed (says 49 "t") (Some (sig (i64 ∷ []) []))) ∷ []) 49 TypeMismatch
types_differ = refl

-- an empty (param) counts as written
nothing_written : IsUnmet (type (id 14 "t") (func_type (i32 ∷ []) []) ∷ of_type (typed (says 49 "t") (Some (sig [] []))) ∷ []) 49 TypeMismatch
nothing_written = refl

-- (type (func (param (ref $s)))) (type $s (struct)) (func (type 0) (param (ref 1))): as numbered
agree_as_numbered : IsMet (
    type None (func_type (ref (says 0 "s") ∷ []) [])
    ∷ type (id 0 "s") (StructType [])
    ∷ of_type (typed (num 0) (Some (sig (ref (num 1) ∷ []) [])))
    ∷ [])
agree_as_numbered = refl

-- (func (type 0) (param (ref 0))) (type (func (param (ref $zz)))): a name that means nothing is no number
unknown_differs : IsUnmet (
    of_type (typed (ByNumber 0 12) (Some (sig (ref (num 0) ∷ []) [])))
    ∷ type None (func_type (ref (says 44 "zz") ∷ []) [])
    ∷ []) 12 TypeMismatch
unknown_differs = refl

-- (type (func)) (func (type 0) (param (ref $q))): the signature's types first
signature_before_agreement : IsUnmet (
    type None (func_type [] [])
    ∷ of_type (typed (num 0) (Some (sig (ref (says 49 "q") ∷ []) [])))
    ∷ []) 49 (Unknown (codes "type") (name "q"))
signature_before_agreement = refl

-- (type (struct)) (func (type 0) (param i32)), (func (type 7) (param i32)): no function type of the module
no_function_type : IsMet (
    type None (StructType [])
    ∷ of_type (typed (num 0) (Some (sig (i32 ∷ []) [])))
    ∷ of_type (typed (num 7) (Some (sig (i32 ∷ []) [])))
    ∷ [])
no_function_type = refl

-- (func (param i32)) (func (type 0) (param i64)): an implied type is one of the module
differ_from_implied : IsUnmet (of_type (written (i32 ∷ []) []) ∷ of_type (typed (ByNumber 0 38) (Some (sig (i64 ∷ []) []))) ∷ []) 38 TypeMismatch
differ_from_implied = refl

-- (type (shared (func (param i32)))) (func (type 0) (param i64))
differ_from_shared : IsUnmet (shared_type (func_type (i32 ∷ []) []) ∷ of_type (typed (ByNumber 0 47) (Some (sig (i64 ∷ []) []))) ∷ []) 47 TypeMismatch
differ_from_shared = refl

-- (type (func)) (func block (type 0) (result i32) end)
differ_in_block : IsUnmet (type None (func_type [] []) ∷ body (block_of (typed (ByNumber 0 36) (Some (sig [] (i32 ∷ [])))) ∷ end ∷ []) ∷ []) 36 TypeMismatch
differ_in_block = refl

-- LABELS
-- (func block $a end $b), (func block end $b), (func block $a else $b end): the block's own name
end_of_other : IsUnmet (body (block (id 20 "a") ∷ end_of (id 27 "b") ∷ []) ∷ []) 27 LabelMismatch
end_of_other = refl

end_of_unnamed : IsUnmet (body (block None ∷ end_of (id 24 "b") ∷ []) ∷ []) 24 LabelMismatch
end_of_unnamed = refl

else_of_other : IsUnmet (body (block (id 20 "a") ∷ else_of (id 28 "b") ∷ end ∷ []) ∷ []) 28 LabelMismatch
else_of_other = refl

-- (func block $a block $b end $b else $a end $a end $c): outside all blocks it is ignored
ends : IsMet (body (block (id 0 "a") ∷ block (id 0 "b") ∷ end_of (id 0 "b") ∷ else_of (id 0 "a") ∷ end_of (id 0 "a") ∷ end_of (id 0 "c") ∷ []) ∷ [])
ends = refl

-- (func block $a end br $a), (func try $l delegate $l): it is closed
label_closed : IsUnmet (body (block (id 20 "a") ∷ end ∷ br (says 30 "a") ∷ []) ∷ []) 30 (Unknown (codes "label") (name "a"))
label_closed = refl

delegate_own : IsUnmet (body (try (id 18 "l") ∷ delegate (says 30 "l") ∷ []) ∷ []) 30 (Unknown (codes "label") (name "l"))
delegate_own = refl

-- (func try_table $l (catch_all $l) end): not open yet; (func try_table (catch $e $l) end): the tag first
catch_own : IsUnmet (body (try_table (id 24 "l") (CatchAll (says 38 "l") ∷ []) ∷ end ∷ []) ∷ []) 38 (Unknown (codes "label") (name "l"))
catch_own = refl

catch_tag_first : IsUnmet (body (try_table None (CatchTag (says 31 "e") (says 34 "l") ∷ []) ∷ end ∷ []) ∷ []) 31 (Unknown (codes "tag") (name "e"))
catch_tag_first = refl

-- PARAMETERS
-- (type (func (param $x i32))) (func (type 0) local.get $x): those of the type have no names
params_of_type : IsUnmet (
    type None (FuncType (record { params = local (id 0 "x") i32 ∷ []; results = [] }))
    ∷ function (typed (num 0) None) [] (local_get (says 60 "x") ∷ [])
    ∷ []) 60 (Unknown (codes "local") (name "x"))
params_of_type = refl

-- WORDS
said : words (Unknown (space_word Functions) (name "x")) ≡ codes "unknown func: failed to find name `$x`"
said = refl

said_import : words (ImportAfter (definition_word Functions)) ≡ codes "import after function"
said_import = refl

said_twice : words (Duplicate (space_word Functions)) ≡ codes "duplicate func identifier"
said_twice = refl

-- INLINE PARTS: fields as they are keep to what they keep to written out, and have the same numbers
-- (func) (func (import "" "")): an import behind a definition
inline_import_unmet : BothUnmet (body [] ∷ at 16 None [] (Imported [] [] (OfFunc no_use)) ∷ [])
    (Some (record { place = 16; complaint = ImportAfter (codes "function"); holds = false }))
inline_import_unmet = refl

-- (func $f (export "e") (import "" "")) (table funcref (elem $f $x))
inline_elements_unmet : BothUnmet (
    at 1 (id 6 "f") (codes "e" ∷ []) (Imported [] [] (OfFunc no_use))
    ∷ at 38 None [] (TableOf false funcref (Indices (says 59 "f" ∷ says 62 "x" ∷ [])))
    ∷ [])
    (Some (record { place = 62; complaint = Unknown (codes "func") (name "x"); holds = false }))
inline_elements_unmet = refl

-- (func $f (export "e") (import "" "")) (func (import "" "")) (memory (data "ab")) (table funcref (elem $f))
inline_met : BothUnmet (
    at 1 (id 6 "f") (codes "e" ∷ []) (Imported [] [] (OfFunc no_use))
    ∷ at 38 None [] (Imported [] [] (OfFunc no_use))
    ∷ at 60 None [] (MemoryOf false None (Text (codes "ab") ∷ []))
    ∷ at 82 None [] (TableOf false funcref (Indices (says 103 "f" ∷ [])))
    ∷ [])
    None
inline_met = refl

-- (memory (export "e") (data "ab")) (data $d "") (func data.drop $d)
inline_data : List (Field W ℕ)
inline_data = at 1 None (codes "e" ∷ []) (MemoryOf false None (Text (codes "ab") ∷ [])) ∷ segment (id 0 "d") ∷ body (data_drop (says 67 "d") ∷ []) ∷ []

after_inline_data : denotes same_name inline_data Datas (name "d") ≡ Some 1
unfolding inline_data
after_inline_data = refl

data_numbers : SameNumbers inline_data
unfolding inline_data
data_numbers = refl

-- (table $t funcref (elem $f)) (elem $e func) (func $f elem.drop $e)
elem_numbers : SameNumbers (
    at 1 (id 7 "t") [] (TableOf false funcref (Indices (says 24 "f" ∷ [])))
    ∷ elems (id 34 "e")
    ∷ func (id 49 "f") (elem_drop (says 62 "e") ∷ [])
    ∷ [])
elem_numbers = refl

-- BREACHES
-- i32.load align=65536, align=32768, align=3
too_wide : Breaks (at 20 None [] (Func (record { type_use = no_use; locals = []; body = expr (load 65536 ∷ []) })) ∷ []) (20 ∷ [])
too_wide = refl

wide_enough : Breaks (body (load 32768 ∷ load 1 ∷ []) ∷ []) []
wide_enough = refl

no_power : Breaks (at 20 None [] (Func (record { type_use = no_use; locals = []; body = expr (load 3 ∷ []) })) ∷ []) (20 ∷ [])
no_power = refl

-- (elem (block (nop))): a block that isn't closed; (data (offset (block (result i32) (i32.const 0))) "a"); a closer too many
block_open : Breaks (elem_at 9 (expr (nop ∷ block None ∷ [])) (Indices []) ∷ []) (9 ∷ [])
block_open = refl

block_closed : Breaks (data_at 9 (expr (block_of (written [] (i32 ∷ [])) ∷ const (pos 0) ∷ end ∷ [])) ∷ []) []
block_closed = refl

end_too_many : Breaks (data_at 9 (expr (end ∷ block None ∷ [])) ∷ []) (9 ∷ [])
end_too_many = refl

-- in a body anything goes
body_open : Breaks (body (block None ∷ []) ∷ body (end ∷ end ∷ []) ∷ []) []
body_open = refl

-- a try that delegate closes
try_closed : Breaks (data_at 9 (expr (try None ∷ delegate (num 0) ∷ [])) ∷ []) []
try_closed = refl

-- hints: twice at one instruction, behind the last one, a value of 128; in constant expressions too
hints_equal : Breaks (at 9 None [] (Func (record { type_use = no_use; locals = []; body = hinted (nop ∷ nop ∷ []) ((0, 0) ∷ (0, 1) ∷ []) })) ∷ []) (9 ∷ [])
hints_equal = refl

hint_behind : Breaks (at 9 None [] (Func (record { type_use = no_use; locals = []; body = hinted (nop ∷ []) ((1, 0) ∷ []) })) ∷ []) (9 ∷ [])
hint_behind = refl

hint_large : Breaks (data_at 9 (hinted (nop ∷ []) ((0, 128) ∷ [])) ∷ []) (9 ∷ [])
hint_large = refl

hints_rise : Breaks (data_at 9 (hinted (nop ∷ nop ∷ []) ((0, 127) ∷ (1, 0) ∷ [])) ∷ []) []
hints_rise = refl

-- pages of 2^64 bytes, inline alone
large_pages : Breaks (
    at 9 None [] (MemoryOf false (Some 64) [])
    ∷ at 30 None [] (MemoryOf false (Some 63) [])
    ∷ at 50 None [] (Memory (record memory_1 { page = Some 64 }))
    ∷ []) (9 ∷ [])
large_pages = refl

-- two starts: the later
second_start : Breaks (body [] ∷ start 15 (num 0) ∷ start 24 (num 0) ∷ start 33 (num 0) ∷ []) (24 ∷ 33 ∷ [])
second_start = refl

first_of_breaches : first_breach same_name is_made (start 15 (num 0) ∷ start 24 (num 0) ∷ data_at 30 (expr (end ∷ [])) ∷ []) ≡ Some 24
first_of_breaches = refl

-- a name that is made up and means nothing, and one that means something; a name that is read is no breach
unbound : Breaks (start 9 (ByName (made 5, 9)) ∷ body (call (says 26 "x") ∷ []) ∷ []) (9 ∷ [])
unbound = refl

bound : Breaks (start 9 (ByName (made 5, 9)) ∷ func (Some (made 5, 20)) [] ∷ []) []
bound = refl

-- NUMBERS
-- (type $t (struct)) (func (param (ref $t))) (func (param (ref 0)))
resolved_types : resolved same_name made (
    type (id 0 "t") (StructType [])
    ∷ of_type (written (ref (says 0 "t") ∷ []) [])
    ∷ of_type (written (ref (num 0) ∷ []) [])
    ∷ [])
    ≡ type (id 0 "t") (StructType [])
    ∷ of_type (typed (num 1) (Some (sig (ref (num 0) ∷ []) [])))
    ∷ of_type (typed (num 2) (Some (sig (ref (num 0) ∷ []) [])))
    ∷ type None (func_type (ref (num 0) ∷ []) [])
    ∷ type None (func_type (ref (num 0) ∷ []) [])
    ∷ []
resolved_types = refl

-- and again
resolved_again : resolved same_name made (
    type (id 0 "t") (StructType [])
    ∷ of_type (typed (num 1) (Some (sig (ref (num 0) ∷ []) [])))
    ∷ type None (func_type (ref (num 0) ∷ []) [])
    ∷ [])
    ≡ type (id 0 "t") (StructType []) ∷ of_type (typed (num 1) (Some (sig (ref (num 0) ∷ []) []))) ∷ type None (func_type (ref (num 0) ∷ []) []) ∷ []
resolved_again = refl

-- (data $d "a") (data $d "b") (func data.drop $d)
resolved_data : resolved same_name made (segment (id 0 "d") ∷ segment (id 0 "d") ∷ body (data_drop (says 9 "d") ∷ []) ∷ [])
    ≡ segment (id 0 "d") ∷ segment (id 0 "d") ∷ function (typed (num 0) None) [] (data_drop (ByNumber 1 9) ∷ []) ∷ type None (func_type [] []) ∷ []
resolved_data = refl

-- (type (func (param i32))) (func (type 0) (local $x i64) block $a block br $a end $a end local.get $x)
resolved_body : resolved same_name made (
    type None (func_type (i32 ∷ []) [])
    ∷ function (typed (num 0) None) (local (id 0 "x") i64 ∷ []) (
    block (id 0 "a") ∷ block None ∷ br (says 0 "a") ∷ end ∷ end_of (id 0 "a") ∷ local_get (says 0 "x") ∷ [])
    ∷ [])
    ≡ type None (func_type (i32 ∷ []) [])
    ∷ function (typed (num 0) None) (local (id 0 "x") i64 ∷ []) (
    block (id 0 "a") ∷ block None ∷ br (num 1) ∷ end ∷ end_of (id 0 "a") ∷ local_get (num 1) ∷ [])
    ∷ []
resolved_body = refl

-- (tag $e) (func try_table (catch $e 0) end)
resolved_catch : resolved same_name made (define (id 0 "e") (Tag no_use) ∷ body (try_table None (CatchTag (says 0 "e") (num 0) ∷ []) ∷ end ∷ []) ∷ [])
    ≡ define (id 0 "e") (Tag (typed (num 0) None))
    ∷ function (typed (num 0) None) [] (try_table None (CatchTag (num 0) (num 0) ∷ []) ∷ end ∷ [])
    ∷ type None (func_type [] [])
    ∷ []
resolved_catch = refl

-- (type $t (sub $t (describes $t) (descriptor $t) (struct (field $a i8) (field (ref $t)))))
resolved_type_def : (i : Reference W ℕ) → Field W ℕ
resolved_type_def i = TypeField (record {
  place = 9;
  id = id 0 "t";
  given = Some (codes "given");
  definition = record {
    is_final = false;
    supertype = Some i;
    describes = Some i;
    descriptor = Some i;
    comp = record {
      shared = true;
      inner = StructType (
          record { id = id 0 "a"; field_type = record { mutable = true; storage = Packed I8 } }
          ∷ record { id = None; field_type = record { mutable = false; storage = Value (ref i) } }
          ∷ []);
    };
  };
})

resolved_type : resolved same_name made (resolved_type_def (says 7 "t") ∷ []) ≡ resolved_type_def (ByNumber 0 7) ∷ []
unfolding resolved_type_def
resolved_type = refl

-- (table $t (ref $f)) (elem (table $t) (offset global.get $g) (ref $f) (item ref.func $f)), and the same in the table
segment_fields : (t f g h : Reference W ℕ) → List (Field W ℕ)
segment_fields t f g h =
    type (id 0 "f") (func_type [] [])
    ∷ define (id 0 "h") (Imported [] [] (OfFunc (typed f None)))
    ∷ define (id 0 "t") (Table (record table_1 { element = record funcref { heap_type = Concrete f } }) (Some (expr (call h ∷ []))))
    ∷ define (id 0 "g") (Global (record { val_type = ref f; mutable = true; shared = false }) (hinted (block (id 0 "b") ∷ br (num 0) ∷ end ∷ []) ((0, 1) ∷ [])))
    ∷ elem_of 9 t (expr (call h ∷ [])) (Expressions (record funcref { heap_type = Concrete f }) (expr (call h ∷ []) ∷ []))
    ∷ elem_of 9 t (expr []) (Indices (h ∷ h ∷ []))
    ∷ start 0 h
    ∷ export 0 "g" exports.Global g
    ∷ []

resolved_segments : numbered same_name (segment_fields (says 0 "t") (says 0 "f") (says 0 "g") (says 0 "h")) ≡ segment_fields (num 0) (num 0) (num 0) (num 0)
unfolding segment_fields
resolved_segments = refl

-- WHOLE MODULES
abbrev module_of : Content W ℕ → Option Problem → Module W ℕ
module_of content refusal = record { place = 1; id = None; given = None; content = content; refusal = refusal }

-- (module (start 0) (start 0)): the second
module_breach : module_breaches same_name is_made (module_of (Fields (start 9 (num 0) ∷ start 19 (num 0) ∷ [])) None) ≡ 19 ∷ []
module_breach = refl
