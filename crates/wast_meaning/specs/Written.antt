-- Fields without inline parts (WebAssembly 3.0, 6.6: abbreviations).
use Rattle.std.specs.Prelude.{ℕ, zero, suc, pos, ◌+◌, ◌-◌, ◌/◌, ◌^◌, Bool, true, false, ◌||◌, ◌&&◌, not, is_some, if◌then◌else◌, List, [], ◌∷◌, ◌++◌, length, map, Option, Some, None, unwrap_or, codes}
use Rattle.std.specs.List.{sum_by}
use Rattle.wasm_encoder_base.specs.Table.{entry, Space, Functions, Tables, Memories, Globals, Tags, I32, I64}
use Rattle.wast_parser.specs.Identifiers.{Named, ByName}
use Rattle.wast_field_syntax.specs.ValueTree.{Limits}
use Rattle.wast_mnemonics.specs.Heads.{Listed}
use Rattle.wast_field_syntax.specs.InstructionTree.{Integer}
use Rattle.wast_exports.specs.Exports as exports
use Rattle.wast_imports.specs.ImportTree.{ExternType, OfFunc, OfExactFunc, OfTable, OfMemory, OfGlobal, OfTag, Single}
use Rattle.wast_field_syntax.specs.DataTree.{byte_count}
use Rattle.wast_field_syntax.specs.FieldTree.{Expr, Elements, Indices, Expressions, Defined, Imported, Func, Table, TableOf, Memory, MemoryOf, Global, Tag, Definition, ActiveElem, ActiveData, Field, ImportField, Define, ExportField, ElemField, DataField}

abbrev pub space_of_kind : exports.ExportKind → Space
space_of_kind exports.Func = Functions
space_of_kind exports.Table = Tables
space_of_kind exports.Memory = Memories
space_of_kind exports.Global = Globals
space_of_kind exports.Tag = Tags

-- as many pages as hold so many bytes; a page is 2 to this power, 16 where none is written
abbrev pub pages : Option ℕ → ℕ → ℕ
pages page len = (len + (2 ^ unwrap_or page 16) - 1) / (2 ^ unwrap_or page 16)

abbrev pub exactly : Bool → ℕ → Limits
exactly wide n = record { is_wide = wide; minimum = n; maximum = Some n }

abbrev pub has_any : {A : Type 0} → List A → Bool
has_any [] = false
has_any (x ∷ xs) = true

module _ {N P : Type 0} where
  abbrev pub elements_len : Elements N P → ℕ
  elements_len (Indices is) = length is
  elements_len (Expressions t es) = length es

  -- what a thing is, as an export says it
  abbrev pub kind_of_type : ExternType N P → exports.ExportKind
  kind_of_type (OfFunc u) = exports.Func
  kind_of_type (OfExactFunc u) = exports.Func
  kind_of_type (OfTable t) = exports.Table
  kind_of_type (OfMemory t) = exports.Memory
  kind_of_type (OfGlobal t) = exports.Global
  kind_of_type (OfTag u) = exports.Tag

  abbrev pub kind_of : Defined N P → exports.ExportKind
  kind_of (Imported from name t) = kind_of_type t
  kind_of (Func f) = exports.Func
  kind_of (Table t init) = exports.Table
  kind_of (TableOf wide t es) = exports.Table
  kind_of (Memory t) = exports.Memory
  kind_of (MemoryOf wide page vs) = exports.Memory
  kind_of (Global t init) = exports.Global
  kind_of (Tag u) = exports.Tag

  -- the address 0
  abbrev pub zero_offset : Bool → Expr N P
  zero_offset false = record { instrs = record { head = Listed (entry (codes "i32.const") I32 (0x41 ∷ [])); operands = Integer (pos 0) } ∷ []; hints = [] }
  zero_offset true = record { instrs = record { head = Listed (entry (codes "i64.const") I64 (0x42 ∷ [])); operands = Integer (pos 0) } ∷ []; hints = [] }

  -- what is defined, without the segment, which gives the size
  abbrev pub alone : Defined N P → Defined N P
  alone (TableOf wide t es) = Table (record { limits = exactly wide (elements_len es); shared = false; element = t }) None
  alone (MemoryOf wide page vs) = Memory (record { limits = exactly wide (pages page (sum_by byte_count vs)); shared = false; page = page })
  alone d = d

  abbrev pub field_of : P → Option (Named N P) → Option (List ℕ) → Defined N P → Field N P
  field_of p id given (Imported from name t) =
      ImportField (record { place = p; from = from; items = Single name (record { place = p; id = id; given = given; extern_type = t }) })
  field_of p id given d = Define (record { place = p; id = id; given = given; exports = []; defined = alone d })

  -- an export of what has this name
  abbrev pub export_of : P → exports.ExportKind → Named N P → List ℕ → Field N P
  export_of p kind id name = ExportField (record { place = p; name = name; kind = kind; item = ByName id })

  -- the segment, active at 0 of the table or memory that has this name
  abbrev pub segment_of : P → Named N P → Defined N P → List (Field N P)
  segment_of p id (TableOf wide t es) =
      ElemField (record { place = p; id = None; given = None; mode = ActiveElem (Some (ByName id)) (zero_offset wide); elements = es }) ∷ []
  segment_of p id (MemoryOf wide page vs) =
      DataField (record { place = p; id = None; given = None; mode = ActiveData (Some (ByName id)) (zero_offset wide); values = vs }) ∷ []
  segment_of p id d = []

  abbrev pub has_segment : Defined N P → Bool
  has_segment (TableOf wide t es) = true
  has_segment (MemoryOf wide page vs) = true
  has_segment d = false

  -- whether a field that is written out says its name
  abbrev pub is_said : Definition N P → Bool
  is_said d = has_any d.exports || has_segment d.defined

  -- its own name, or the fresh one
  abbrev pub name_or : N → Definition N P → Named N P
  name_or fresh d = unwrap_or d.id (fresh, d.place)

  -- a definition, then its exports, then its segment, all at its place
  abbrev pub definition_out : N → Definition N P → List (Field N P)
  definition_out fresh d =
      field_of d.place (if is_said d then Some (name_or fresh d) else d.id) d.given d.defined
      ∷ map (export_of d.place (kind_of d.defined) (name_or fresh d)) d.exports
      ++ segment_of d.place (name_or fresh d) d.defined

  -- what a field is written out as, where its fresh name is this one
  abbrev pub field_out : N → Field N P → List (Field N P)
  field_out fresh (Define d) = definition_out fresh d
  field_out fresh f = f ∷ []

  abbrev pub written_from : (ℕ → N) → ℕ → List (Field N P) → List (Field N P)
  written_from naming n [] = []
  written_from naming n (f ∷ fs) = field_out (naming n) f ++ written_from naming (suc n) fs

  -- all fields, where a fresh name is that of the field's position
  abbrev pub written_out : (ℕ → N) → List (Field N P) → List (Field N P)
  written_out naming fs = written_from naming 0 fs

  -- whether a field takes its fresh name
  abbrev pub takes_name : Field N P → Bool
  takes_name (Define d) = is_said d && not (is_some d.id)
  takes_name f = false

  -- the naming of a counter that begins at a number and goes up with each fresh name that is taken
  abbrev pub by_counter : (ℕ → N) → ℕ → List (Field N P) → ℕ → N
  by_counter made n [] k = made n
  by_counter made n (f ∷ fs) zero = made n
  by_counter made n (f ∷ fs) (suc k) = by_counter made (if takes_name f then n + 1 else n) fs k
