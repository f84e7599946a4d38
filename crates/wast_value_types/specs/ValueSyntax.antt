-- The syntax of the types of values, heaps, tables, memories and globals (WebAssembly 3.0, 6.4).
use Rattle.std.specs.Prelude.{ℕ, ◌-◌, ◌^◌, ◌==◌, zero, suc, Bool, true, false, if◌then◌else◌, List, [], ◌∷◌, Option, Some, None, is_some, unwrap_or, codes}
use Rattle.wasm_encoder_base.specs.Types.{FuncHeap, ExternHeap, AnyHeap, EqHeap, I31Heap, StructHeap, ArrayHeap, ExnHeap, NoFuncHeap, NoExternHeap, NoneHeap, NoExnHeap}
use Rattle.wast_words.specs.Look.{Test, this_group, join, index_starts, integer_starts}
use Rattle.wast_words.specs.Grammar.{Syntax, seen, only, seq, maybe, either, group}
use Rattle.wast_words.specs.Integers.{number_in, unsigned, u32}
use Rattle.wast_words.specs.Identifiers.{index}
use Rattle.wast_words.specs.WordSyntax.{keywords, keyword, optional}
use Rattle.wast_value_types.specs.ValueTree.{NumberType, I32, I64, F32, F64, V128, HeapWord, Known, Cont, NoCont, HeapType, Abstract, Concrete, Exact, RefType, ValType, Number, Ref, PackedType, I8, I16, StorageType, Packed, Value, FieldType, Limits, TableType, MemoryType, GlobalType}

-- KEYWORDS, each with what it stands for
abbrev pub number_words : List (List ℕ × NumberType)
number_words = (codes "i32", I32) ∷ (codes "i64", I64) ∷ (codes "f32", F32) ∷ (codes "f64", F64) ∷ (codes "v128", V128) ∷ []

abbrev pub heap_words : List (List ℕ × HeapWord)
heap_words =
    (codes "func", Known FuncHeap)
    ∷ (codes "extern", Known ExternHeap)
    ∷ (codes "exn", Known ExnHeap)
    ∷ (codes "cont", Cont)
    ∷ (codes "any", Known AnyHeap)
    ∷ (codes "eq", Known EqHeap)
    ∷ (codes "struct", Known StructHeap)
    ∷ (codes "array", Known ArrayHeap)
    ∷ (codes "i31", Known I31Heap)
    ∷ (codes "nofunc", Known NoFuncHeap)
    ∷ (codes "noextern", Known NoExternHeap)
    ∷ (codes "none", Known NoneHeap)
    ∷ (codes "noexn", Known NoExnHeap)
    ∷ (codes "nocont", NoCont)
    ∷ []

-- the abbreviations of nullable reference types (6.4.3)
abbrev pub short_words : List (List ℕ × HeapWord)
short_words =
    (codes "funcref", Known FuncHeap)
    ∷ (codes "externref", Known ExternHeap)
    ∷ (codes "exnref", Known ExnHeap)
    ∷ (codes "contref", Cont)
    ∷ (codes "anyref", Known AnyHeap)
    ∷ (codes "eqref", Known EqHeap)
    ∷ (codes "structref", Known StructHeap)
    ∷ (codes "arrayref", Known ArrayHeap)
    ∷ (codes "i31ref", Known I31Heap)
    ∷ (codes "nullfuncref", Known NoFuncHeap)
    ∷ (codes "nullexternref", Known NoExternHeap)
    ∷ (codes "nullref", Known NoneHeap)
    ∷ (codes "nullexnref", Known NoExnHeap)
    ∷ (codes "nullcontref", NoCont)
    ∷ []

abbrev pub packed_words : List (List ℕ × PackedType)
packed_words = (codes "i8", I8) ∷ (codes "i16", I16) ∷ []

-- the types of addresses, by whether they have 64 bits (6.4.8)
abbrev pub address_words : List (List ℕ × Bool)
address_words = (codes "i32", false) ∷ (codes "i64", true) ∷ []

-- PAGE SIZES
-- the exponent below a bound to which 2 is this number, where there is one
abbrev pub exponent_below : ℕ → ℕ → Option ℕ
exponent_below zero n = None
exponent_below (suc k) n = if n == 2 ^ k then Some k else exponent_below k n

-- the same of a number of 32 bits
unfoldable pub exponent : ℕ → Option ℕ
exponent n = exponent_below 32 n

-- WHAT THEY BEGIN WITH
abbrev pub heap_starts : List Test
heap_starts = join index_starts (join (keywords heap_words) (this_group (codes "exact") ∷ this_group (codes "shared") ∷ []))

abbrev pub ref_starts : List Test
ref_starts = this_group (codes "ref") ∷ keywords short_words

abbrev pub val_starts : List Test
val_starts = join (keywords number_words) ref_starts

abbrev pub mut_starts : List Test
mut_starts = this_group (codes "mut") ∷ []

abbrev pub field_starts : List Test
field_starts = join mut_starts (join (keywords packed_words) val_starts)

abbrev pub page_starts : List Test
page_starts = this_group (codes "pagesize") ∷ []

-- WHAT PARTS STAND FOR
abbrev pub as_limits : Bool × (ℕ × Option ℕ) → Limits
as_limits l = record { is_wide = l.0; minimum = l.1.0; maximum = l.1.1 }

abbrev pub as_memory : Limits × (Bool × Option ℕ) → MemoryType
as_memory m = record { limits = m.0; shared = m.1.0; page = m.1.1 }

module _ {N P : Type 0} where
  abbrev pub u64 : Syntax N P ℕ
  u64 = seen (λ n. n.0) (number_in (2 ^ 64 - 1) None unsigned)

  -- HEAP TYPES (6.4.2): word, index, (exact index), (shared word)
  abbrev pub heap_type : Syntax N P (HeapType N P)
  heap_type =
      either index_starts (seen Concrete index)
      (either (keywords heap_words) (seen (Abstract false) (keyword heap_words))
      (either (this_group (codes "exact") ∷ []) (seen Exact (group (codes "exact") index)) (seen (Abstract true) (group (codes "shared") (keyword heap_words)))))

  -- REFERENCE TYPES (6.4.3): (ref null? heap_type), or the abbreviation of a nullable one
  abbrev pub as_ref : Bool × HeapType N P → RefType N P
  as_ref r = record { nullable = r.0; heap_type = r.1 }

  abbrev pub ref_body : Syntax N P (RefType N P)
  ref_body = seen as_ref (seq (optional (codes "null")) heap_type)

  abbrev pub nullable : HeapWord → RefType N P
  nullable w = record { nullable = true; heap_type = Abstract false w }

  abbrev pub ref_type : Syntax N P (RefType N P)
  ref_type = either (this_group (codes "ref") ∷ []) (group (codes "ref") ref_body) (seen nullable (keyword short_words))

  -- VALUE TYPES (6.4.4)
  abbrev pub val_type : Syntax N P (ValType N P)
  val_type = either (keywords number_words) (seen Number (keyword number_words)) (seen Ref ref_type)

  -- STORAGE TYPES, and FIELD TYPES: storage_type, (mut storage_type) (6.4.6)
  abbrev pub storage_type : Syntax N P (StorageType N P)
  storage_type = either (keywords packed_words) (seen Packed (keyword packed_words)) (seen Value val_type)

  abbrev pub as_field : Bool → StorageType N P → FieldType N P
  as_field mutable storage = record { mutable = mutable; storage = storage }

  abbrev pub field_type : Syntax N P (FieldType N P)
  field_type = either mut_starts (seen (as_field true) (group (codes "mut") storage_type)) (seen (as_field false) storage_type)

  -- GLOBAL TYPES (6.4.10): val_type, (mut val_type), (shared mut? val_type)
  abbrev pub as_global : (mutable shared : Bool) → ValType N P → GlobalType N P
  as_global mutable shared t = record { val_type = t; mutable = mutable; shared = shared }

  abbrev pub shared_global : Syntax N P (GlobalType N P)
  shared_global = seen (λ g. as_global g.0 true g.1) (seq (optional (codes "mut")) val_type)

  abbrev pub global_type : Syntax N P (GlobalType N P)
  global_type =
      either mut_starts (seen (as_global true false) (group (codes "mut") val_type))
      (either (this_group (codes "shared") ∷ []) (group (codes "shared") shared_global) (seen (as_global false false) val_type))

  -- ADDRESS TYPES and LIMITS (6.4.8): (i32|i64)? u64 u64?; without a keyword it is i32
  abbrev pub address_type : Syntax N P Bool
  address_type = seen (λ a. unwrap_or a false) (maybe (keywords address_words) (keyword address_words))

  abbrev pub limits : Syntax N P Limits
  limits = seen as_limits (seq address_type (seq u64 (maybe integer_starts u64)))

  -- TABLE TYPES (6.4.12): shared? limits ref_type
  abbrev pub as_table : Bool × (Limits × RefType N P) → TableType N P
  as_table t = record { limits = t.1.0; shared = t.0; element = t.1.1 }

  abbrev pub table_type : Syntax N P (TableType N P)
  table_type = seen as_table (seq (optional (codes "shared")) (seq limits ref_type))

  -- MEMORY TYPES (6.4.11): limits shared? (pagesize u32)?, the page size being a power of two
  abbrev pub power_of_two : Syntax N P ℕ
  power_of_two = seen (λ n. unwrap_or (exponent n) 0) (only (λ n. is_some (exponent n)) u32)

  abbrev pub page_size : Syntax N P (Option ℕ)
  page_size = maybe page_starts (group (codes "pagesize") power_of_two)

  abbrev pub memory_type : Syntax N P MemoryType
  memory_type = seen as_memory (seq limits (seq (optional (codes "shared")) page_size))
