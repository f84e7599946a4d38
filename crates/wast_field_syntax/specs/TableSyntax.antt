-- The syntax of tables and memories (WebAssembly 3.0, 6.6).
use Rattle.std.specs.Prelude.{ℕ, Bool, true, false, List, [], ◌∷◌, Option, Some, None, codes}
use Rattle.wast_parser.specs.Look.{Test, this_word, this_group, join, integer_starts}
use Rattle.wast_parser.specs.Grammar.{Syntax, seen, next, seq, maybe, many, either, led, group}
use Rattle.wast_value_types.specs.ValueTree.{Limits, RefType}
use Rattle.wast_value_types.specs.WordSyntax.{optional}
use Rattle.wast_value_types.specs.ValueSyntax.{page_starts, as_limits, u64, ref_starts, ref_type, address_type, limits, table_type, page_size, memory_type, as_memory}
use Rattle.wast_imports.specs.ImportTree.{OfTable, OfMemory}
use Rattle.wast_data.specs.DataTree.{DataVal}
use Rattle.wast_field_syntax.specs.FieldTree.{Expr, Elements, Indices, Expressions, Defined, Table, TableOf, Memory, MemoryOf, Definition}
use Rattle.wast_field_syntax.specs.DefinitionSyntax.{expr, element, definition, imported_or}
use Rattle.wast_field_syntax.specs.ElemSyntax.{element_starts, indices}
use Rattle.wast_field_syntax.specs.DataSyntax.{values}

-- what stands behind the address type of a table, or of a memory
abbrev pub table_starts : List Test
table_starts = join integer_starts ref_starts

abbrev pub inline_data_starts : List Test
inline_data_starts = this_group (codes "data") ∷ []

abbrev pub memory_starts : List Test
memory_starts = join integer_starts (join page_starts inline_data_starts)

-- none where there is no instruction
abbrev pub where_any : {A B : Type 0} → List A → B → Option B
where_any [] b = None
where_any (x ∷ xs) b = Some b

module _ {N P : Type 0} where
  -- the limits of which the address type is read
  abbrev pub sizes : Syntax N P (ℕ × Option ℕ)
  sizes = seq u64 (maybe integer_starts u64)

  -- MEMORIES: (memory id? (@name ..)? (export name)* type), the same imported, and with a segment that gives the size:
  -- .. (i32|i64)? (pagesize u32)? (data value*)
  abbrev pub as_sized_memory : Bool → (ℕ × Option ℕ) × (Bool × Option ℕ) → Defined N P
  as_sized_memory wide m = Memory (as_memory (as_limits (wide, m.0), m.1))

  abbrev pub as_filled_memory : Bool → Option ℕ × List DataVal → Defined N P
  as_filled_memory wide m = MemoryOf wide m.0 m.1

  abbrev pub memory_with : Bool → Syntax N P (Defined N P)
  memory_with wide = either integer_starts (seen (as_sized_memory wide) (seq sizes (seq (optional (codes "shared")) page_size))) (seen (as_filled_memory wide) (seq page_size (group (codes "data") values)))

  abbrev pub memory_defined : Syntax N P (Defined N P)
  memory_defined = imported_or (seen OfMemory memory_type) (seen (λ m. m.1) (next address_type memory_with memory_starts false (memory_with false).stops))

  abbrev pub memory : Syntax N P (Definition N P)
  memory = definition (codes "memory") memory_defined

  -- TABLES: (table id? (@name ..)? (export name)* type item*), the same imported, and with a segment that gives the size:
  -- .. (i32|i64)? reftype (elem index*), .. (i32|i64)? reftype (elem element element*)
  abbrev pub as_table : Bool → Limits × (RefType N P × Expr N P) → Defined N P
  as_table shared t = Table (record { limits = t.0; shared = shared; element = t.1.0 }) (where_any t.1.1.instrs t.1.1)

  abbrev pub as_sized_table : Bool → (ℕ × Option ℕ) × (RefType N P × Expr N P) → Defined N P
  as_sized_table wide t = as_table false (as_limits (wide, t.0), t.1)

  abbrev pub typed : Syntax N P (RefType N P × Expr N P)
  typed = seq ref_type expr

  -- the elements of a table
  abbrev pub as_elements : RefType N P → Expr N P × List (Expr N P) → Elements N P
  as_elements t e = Expressions t (e.0 ∷ e.1)

  abbrev pub elements : RefType N P → Syntax N P (Elements N P)
  elements t = either element_starts (seen (as_elements t) (seq element (many element_starts element))) (seen Indices indices)

  abbrev pub as_filled_table : Bool → RefType N P × Elements N P → Defined N P
  as_filled_table wide t = TableOf wide t.0 t.1

  abbrev pub filled_table : Syntax N P (RefType N P × Elements N P)
  filled_table = next ref_type (λ t. group (codes "elem") (elements t)) (this_group (codes "elem") ∷ []) false []

  abbrev pub table_with : Bool → Syntax N P (Defined N P)
  table_with wide = either integer_starts (seen (as_sized_table wide) (seq sizes typed)) (seen (as_filled_table wide) filled_table)

  abbrev pub table_defined : Syntax N P (Defined N P)
  table_defined =
      imported_or (seen OfTable table_type)
      (either (this_word (codes "shared") ∷ []) (seen (as_table true) (led (codes "shared") (seq limits typed)))
      (seen (λ t. t.1) (next address_type table_with table_starts false (table_with false).stops)))

  abbrev pub table : Syntax N P (Definition N P)
  table = definition (codes "table") table_defined
