-- The syntax of modules (WebAssembly 3.0, 6.6, modules).
use Rattle.std.specs.Prelude.{List, [], ◌∷◌, None, codes}
use Rattle.wast_parser.specs.Look.{this_word, this_group, string_starts}
use Rattle.wast_parser.specs.Grammar.{Syntax, word, string, seen, only, seq, many, either, led, paren}
use Rattle.wast_imports.specs.ImportSyntax.{Head, head}
use Rattle.wast_module_fields.specs.FieldTree.{Field, field_place, one_start, Content, Fields, Pieces, Module}
use Rattle.wast_module_fields.specs.FieldSyntax.{field_starts, field}

module _ {N P : Type 0} where
  -- MODULES: (module id? (@name ..)? field*), (module id? (@name ..)? binary string*), with one start at most
  abbrev pub fields : Syntax N P (List (Field N P))
  fields = only one_start (many field_starts field)

  abbrev pub content : Syntax N P (Content N P)
  content = either (this_word (codes "binary") ∷ []) (seen Pieces (led (codes "binary") (many string_starts string))) (seen Fields fields)

  abbrev pub as_module : P × (Head N P × Content N P) → Module N P
  as_module m = record { place = m.0; id = m.1.0.0; given = m.1.0.1; content = m.1.1; refusal = None }

  abbrev pub module_body : Syntax N P (Module N P)
  module_body = seen as_module (seq (word (codes "module")) (seq head content))

  abbrev pub module_form : Syntax N P (Module N P)
  module_form = paren module_body

  -- A WHOLE TEXT: such a module, or the fields of one, of which there is one at least
  abbrev pub as_fields : Field N P × List (Field N P) → Module N P
  as_fields fs = record { place = field_place fs.0; id = None; given = None; content = Fields (fs.0 ∷ fs.1); refusal = None }

  abbrev pub bare_module : Syntax N P (Module N P)
  bare_module = seen as_fields (only (λ fs. one_start (fs.0 ∷ fs.1)) (seq field (many field_starts field)))

  abbrev pub wat : Syntax N P (Module N P)
  wat = either (this_group (codes "module") ∷ []) module_form bare_module
