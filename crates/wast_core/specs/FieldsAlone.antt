-- What functions promise each other that read a module of fields alone.
use Rattle.std.specs.Prelude.{◌≡◌, ℕ, true, false, List, ◌∷◌, Result, Ok, Err}
use Rattle.wast_grammar.specs.Tokens.{Name}
use Rattle.wast_parser.specs.Grammar.{Syntax, seen, seq, many}
use Rattle.wast_parser.specs.Problem.{Problem}
use Rattle.wast_module_fields.specs.FieldTree as spec
use Rattle.wast_module_fields.specs.FieldTree.{one_start}
use Rattle.wast_core.specs.ModuleSyntax.{as_fields}
use Rattle.wast_core.specs.ModuleViews.{module_tree}
use Rattle.wast_core.specs.declared.module.Module.{Module}

-- one or more, as one list
abbrev pub as_list : {A : Type 0} → A × List A → List A
as_list s = s.0 ∷ s.1

abbrev pub some : {N P A : Type 0} → Syntax N P A → Syntax N P (List A)
some g = seen as_list (seq g (many g.starts g))

-- The module of these fields, exactly where one at most is the start. The place of an error isn't said.
abbrev pub IsModuleOf : List (spec.Field Name ℕ) → Result Module Problem → Type 0
IsModuleOf trees (Ok m) = (one_start trees ≡ true) × ((first : spec.Field Name ℕ) (others : List (spec.Field Name ℕ)) → trees ≡ first ∷ others → module_tree m ≡ as_fields (first, others))
IsModuleOf trees (Err p) = one_start trees ≡ false
