-- Exports, and the exports and imports that stand inline (WebAssembly 3.0, 6.6), over names of type N and places of
-- type P.
use Rattle.std.specs.Prelude.{ℕ, false, List, [], ◌∷◌, map, codes}
use Rattle.wast_parser.specs.Look.{Test, On, OneOf, AWord, this_group}
use Rattle.wast_parser.specs.Grammar.{Syntax, among, word, seq, seen, many, led, paren}
use Rattle.wast_parser.specs.Productions.{name}
use Rattle.wast_parser.specs.Identifiers.{Reference, index}

-- what may be exported
pub data ExportKind : Type 0 where
  Func : ExportKind
  Table : ExportKind
  Memory : ExportKind
  Global : ExportKind
  Tag : ExportKind

abbrev pub export_word : ExportKind → List ℕ
export_word Func = codes "func"
export_word Table = codes "table"
export_word Memory = codes "memory"
export_word Global = codes "global"
export_word Tag = codes "tag"

abbrev pub export_kinds : List ExportKind
export_kinds = Func ∷ Table ∷ Memory ∷ Global ∷ Tag ∷ []

abbrev pub kind_starts : List Test
kind_starts = On false AWord (OneOf (map export_word export_kinds) []) ∷ []

abbrev pub export_starts : List Test
export_starts = this_group (codes "export") ∷ []

abbrev pub import_starts : List Test
import_starts = this_group (codes "import") ∷ []

-- an export (6.6, exports)
pub record Export (N P : Type 0) : Type 0 where
  -- where the word `export` stands
  pub place : P
  pub name : List ℕ
  pub kind : ExportKind
  pub item : Reference N P

abbrev pub as_export : {N P : Type 0} → P × (List ℕ × (ExportKind × Reference N P)) → Export N P
as_export e = record { place = e.0; name = e.1.0; kind = e.1.1.0; item = e.1.1.1 }

module _ {N P : Type 0} where
  abbrev pub export_kind : Syntax N P ExportKind
  export_kind = seen (λ k. k.0) (among export_word export_kinds [])

  -- (kind index)
  abbrev pub exported_body : Syntax N P (ExportKind × Reference N P)
  exported_body = seq export_kind index

  abbrev pub exported : Syntax N P (ExportKind × Reference N P)
  exported = paren exported_body

  -- (export name (kind index))
  abbrev pub export_body : Syntax N P (Export N P)
  export_body = seen as_export (seq (word (codes "export")) (seq name exported))

  abbrev pub export : Syntax N P (Export N P)
  export = paren export_body

  -- INLINE: (export name)*, and (import name name)
  abbrev pub export_name_body : Syntax N P (List ℕ)
  export_name_body = led (codes "export") name

  abbrev pub export_name : Syntax N P (List ℕ)
  export_name = paren export_name_body

  abbrev pub inline_export : Syntax N P (List (List ℕ))
  inline_export = many export_starts export_name

  abbrev pub inline_import_body : Syntax N P (List ℕ × List ℕ)
  inline_import_body = led (codes "import") (seq name name)

  abbrev pub inline_import : Syntax N P (List ℕ × List ℕ)
  inline_import = paren inline_import_body
