-- The syntax of imports, and of what they and exports are of (WebAssembly 3.0, 6.4.13 and 6.6, imports).
use Rattle.std.specs.Prelude.{ℕ, true, List, [], ◌∷◌, map, Option, Some, None, codes}
use Rattle.wast_signatures.specs.Look.{Test, On, OneOf, AWord, this_group, join, faults, id_starts, string_starts}
use Rattle.wast_signatures.specs.Spelling as spelling
use Rattle.wast_signatures.specs.Grammar.{Syntax, among, word, nothing, next, seq, respelled, seen, maybe, many, either, group, paren}
use Rattle.wast_signatures.specs.Productions.{name}
use Rattle.wast_signatures.specs.Identifiers.{Named, identifier}
use Rattle.wast_value_types.specs.ValueSyntax.{table_type, memory_type, global_type}
use Rattle.wast_signatures.specs.TypeTree.{TypeUse}
use Rattle.wast_signatures.specs.TypeSyntax.{given_starts, given_name, type_use}
use Rattle.wast_exports.specs.Exports.{ExportKind, Func, Table, Memory, Global, Tag, export_word, export_kinds}
use Rattle.wast_imports.specs.ImportTree.{ExternType, OfFunc, OfExactFunc, OfTable, OfMemory, OfGlobal, OfTag, Item, ImportItems, Single, Group1, Group2, Imports, ExportType}

-- WHERE THEY BEGIN
abbrev pub exact_starts : List Test
exact_starts = this_group (codes "exact") ∷ []

abbrev pub item_starts : List Test
item_starts = On true AWord (OneOf (map export_word export_kinds) []) ∷ []

abbrev pub member_starts : List Test
member_starts = this_group (codes "item") ∷ []

-- what stands behind the first member of a group, and what may not stand behind that
abbrev pub rest_starts : List Test
rest_starts = join member_starts item_starts

abbrev pub rest_stops : List Test
rest_stops = join (faults rest_starts) member_starts

-- what fields and items are called
abbrev pub Head : Type 0 → Type 0 → Type 0
Head N P = Option (Named N P) × Option (List ℕ)

module _ {N P : Type 0} where
  -- id? (@name ..)?
  abbrev pub head : Syntax N P (Head N P)
  head = seq (maybe id_starts identifier) (maybe given_starts given_name)

  abbrev pub no_head : Syntax N P (Head N P)
  no_head = seen (λ _. (None, None)) nothing

  -- EXTERNAL TYPES (6.4.13), by the word before them: of a function use, or (exact use)
  abbrev pub exact_use : Syntax N P (TypeUse N P)
  exact_use = group (codes "exact") type_use

  abbrev pub func_type : Syntax N P (ExternType N P)
  func_type = either exact_starts (seen OfExactFunc exact_use) (seen OfFunc type_use)

  abbrev pub extern_type : ExportKind → Syntax N P (ExternType N P)
  extern_type Func = func_type
  extern_type Table = seen OfTable table_type
  extern_type Memory = seen OfMemory memory_type
  extern_type Global = seen OfGlobal global_type
  extern_type Tag = seen OfTag type_use

-- the bounds of all of them
abbrev pub extern_starts : (N P : Type 0) → List Test
extern_starts N P = join (func_type {N = N} {P = P}).starts (join (table_type {N = N} {P = P}).starts (join (memory_type {N = N} {P = P}).starts (global_type {N = N} {P = P}).starts))

abbrev pub extern_stops : (N P : Type 0) → List Test
extern_stops N P = join (func_type {N = N} {P = P}).stops (join (table_type {N = N} {P = P}).stops (join (memory_type {N = N} {P = P}).stops (global_type {N = N} {P = P}).stops))

module _ {N P : Type 0} where
  -- (word id? (@name ..)? type), and the same without the two
  abbrev pub as_item : (ExportKind × P) × (Head N P × ExternType N P) → Item N P
  as_item i = record { place = i.0.1; id = i.1.0.0; given = i.1.0.1; extern_type = i.1.1 }

  abbrev pub item_body : Syntax N P (Head N P) → Syntax N P (Item N P)
  item_body called = seen as_item (next (among export_word export_kinds []) (λ k. seq called (extern_type k.0)) (join called.starts (extern_starts N P)) true (join (extern_stops N P) called.stops))

  abbrev pub item : Syntax N P (Item N P)
  item = paren (item_body head)

  abbrev pub bare_item : Syntax N P (Item N P)
  bare_item = paren (item_body no_head)

  -- GROUPS: (item name item)+, or (item name)+ bare_item
  abbrev pub member : Syntax N P (List ℕ × Item N P)
  member = group (codes "item") (seq name item)

  abbrev pub member_name : Syntax N P (List ℕ)
  member_name = group (codes "item") name

  abbrev pub some_members : {A : Type 0} → Syntax N P A → Syntax N P (List A)
  some_members g = seen (λ x. x.0 ∷ x.1) (seq g (many member_starts g))

  abbrev pub each_with_item : Syntax N P (ImportItems N P)
  each_with_item = seen Group1 (some_members member)

  abbrev pub all_of_one_item : Syntax N P (ImportItems N P)
  all_of_one_item = seen (λ g. Group2 g.0 g.1) (seq (some_members member_name) bare_item)

  -- as a reader decides: the first member tells which it is
  abbrev pub first_member : Syntax N P (List ℕ × Option (Item N P))
  first_member = group (codes "item") (seq name (maybe item_starts item))

  abbrev pub with_rest : List ℕ × Option (Item N P) → Syntax N P (ImportItems N P)
  with_rest (n, Some i) = seen (λ more. Group1 ((n, i) ∷ more)) (many member_starts member)
  with_rest (n, None) = seen (λ more. Group2 (n ∷ more.0) more.1) (seq (many member_starts member_name) bare_item)

  abbrev pub by_first_member : Syntax N P (ImportItems N P)
  by_first_member = seen (λ g. g.1) (next first_member with_rest rest_starts true rest_stops)

  abbrev pub import_group : Syntax N P (ImportItems N P)
  import_group = respelled (spelling.either each_with_item.spells all_of_one_item.spells) by_first_member

  -- IMPORTS (6.6, imports): (import name name item), (import name group)
  abbrev pub import_items : Syntax N P (ImportItems N P)
  import_items = either string_starts (seen (λ s. Single s.0 s.1) (seq name item)) import_group

  abbrev pub as_imports : P × (List ℕ × ImportItems N P) → Imports N P
  as_imports i = record { place = i.0; from = i.1.0; items = i.1.1 }

  abbrev pub imports_body : Syntax N P (Imports N P)
  imports_body = seen as_imports (seq (word (codes "import")) (seq name import_items))

  abbrev pub imports : Syntax N P (Imports N P)
  imports = paren imports_body

  -- WHAT IS EXPORTED UNDER A NAME: (export name item)
  abbrev pub as_export_type : P × (List ℕ × Item N P) → ExportType N P
  as_export_type e = record { place = e.0; name = e.1.0; item = e.1.1 }

  abbrev pub export_type : Syntax N P (ExportType N P)
  export_type = paren (seen as_export_type (seq (word (codes "export")) (seq name item)))
