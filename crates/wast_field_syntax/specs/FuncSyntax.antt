-- The syntax of functions, globals and tags (WebAssembly 3.0, 6.6).
use Rattle.std.specs.Prelude.{List, [], ◌∷◌, codes}
use Rattle.wast_parser.specs.Look.{Test, this_group}
use Rattle.wast_parser.specs.Grammar.{Syntax, seen, seq, many, part}
use Rattle.wast_value_types.specs.ValueTree.{GlobalType}
use Rattle.wast_value_types.specs.ValueSyntax.{global_type}
use Rattle.wast_signatures.specs.TypeTree.{Local, TypeUse}
use Rattle.wast_signatures.specs.TypeSyntax.{joined, locals, type_use}
use Rattle.wast_imports.specs.ImportTree.{OfGlobal, OfTag}
use Rattle.wast_imports.specs.ImportSyntax.{func_type}
use Rattle.wast_field_syntax.specs.FieldTree.{Expr, Function, Defined, Func, Global, Tag, Definition}
use Rattle.wast_field_syntax.specs.DefinitionSyntax.{expr, definition, imported_or}

abbrev pub local_starts : List Test
local_starts = this_group (codes "local") ∷ []

module _ {N P : Type 0} where
  -- (local ..)*
  abbrev pub all_locals : Syntax N P (List (Local N P))
  all_locals = seen joined (many local_starts (locals (codes "local")))

  -- TAGS: (tag id? (@name ..)? (export name)* use), and the same imported
  abbrev pub tag_defined : Syntax N P (Defined N P)
  tag_defined = imported_or (seen OfTag type_use) (seen Tag type_use)

  abbrev pub tag : Syntax N P (Definition N P)
  tag = definition (codes "tag") tag_defined

  -- GLOBALS: (global id? (@name ..)? (export name)* type item*), and the same imported
  abbrev pub as_global : GlobalType N P × Expr N P → Defined N P
  as_global g = Global g.0 g.1

  abbrev pub global_defined : Syntax N P (Defined N P)
  global_defined = imported_or (seen OfGlobal global_type) (seen as_global (seq global_type expr))

  abbrev pub global : Syntax N P (Definition N P)
  global = definition (codes "global") global_defined

  -- FUNCTIONS: (func id? (@name ..)? (export name)* use (local ..)* item*), and the same imported. The body is a marked part,
  -- which may be folded or flat.
  abbrev pub as_function : TypeUse N P × (List (Local N P) × Expr N P) → Function N P
  as_function f = record { type_use = f.0; locals = f.1.0; body = f.1.1 }

  abbrev pub function : Syntax N P (Function N P)
  function = seen as_function (seq type_use (seq all_locals (part expr)))

  abbrev pub func_defined : Syntax N P (Defined N P)
  func_defined = imported_or func_type (seen Func function)

  abbrev pub func : Syntax N P (Definition N P)
  func = definition (codes "func") func_defined
