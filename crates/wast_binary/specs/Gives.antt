-- Which sections a field has something in.
use Rattle.std.specs.Prelude.{Bool, false, List}
use Rattle.std.specs.List.{flat_map}
use Rattle.wasm_layout.specs.Present.{has_any}
use Rattle.wasm_layout.specs.Section.{SectionKind, Types, Imports, Functions, Tables, Memories, Tags, Globals, Exports, Starts, Elements, DataCount, Hints, Codes, Datas}
use Rattle.wast_module_fields.specs.FieldTree.{Defined, Field}
use Rattle.wast_meant.specs.FieldsMeant.{types_of, imports_of, defined_in, functions_of, tables_of, memories_of, tags_of, globals_of, exports_of, starts_of, elements_of, datas_of}

module _ {N P : Type 0} where
  -- whether what is defined has something in the section of a kind
  abbrev pub defined_gives : SectionKind → List (Defined N P) → Bool
  defined_gives Functions ds = has_any (flat_map functions_of ds)
  defined_gives Tables ds = has_any (flat_map tables_of ds)
  defined_gives Memories ds = has_any (flat_map memories_of ds)
  defined_gives Tags ds = has_any (flat_map tags_of ds)
  defined_gives Globals ds = has_any (flat_map globals_of ds)
  defined_gives DataCount ds = has_any (flat_map functions_of ds)
  defined_gives Hints ds = has_any (flat_map functions_of ds)
  defined_gives Codes ds = has_any (flat_map functions_of ds)
  defined_gives k ds = false

  -- whether a field has
  abbrev pub gives : SectionKind → Field N P → Bool
  gives Types f = has_any (types_of f)
  gives Imports f = has_any (imports_of f)
  gives Exports f = has_any (exports_of f)
  gives Starts f = has_any (starts_of f)
  gives Elements f = has_any (elements_of f)
  gives Datas f = has_any (datas_of f)
  gives k f = defined_gives k (defined_in f)
