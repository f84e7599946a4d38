-- The names of the locals of a function, by how many parameters each type has that is written.
use Rattle.std.specs.Prelude.{ℕ, List, [], ◌++◌, replicate, slice_get, Option, Some, None, unwrap_or}
use Rattle.wast_grammar.specs.Tokens.{Name}
use Rattle.wast_parser.specs.Identifiers.{Reference, ByNumber}
use Rattle.wast_signatures.specs.TypeTree.{TypeUse}
use Rattle.wast_module_fields.specs.FieldTree.{Function}
use Rattle.wast_name_maps.specs.Given.{local_names}

-- the count of the type that an index means as a number
abbrev pub count_by : List ℕ → Option (Reference Name ℕ) → ℕ
count_by counts (Some (ByNumber n p)) = unwrap_or (slice_get counts n) 0
count_by counts index = 0

-- the parameters that a use writes, else, unnamed, those of its type
abbrev pub params_by : List ℕ → TypeUse Name ℕ → List (Option (List ℕ))
params_by counts u = elim u.inline [ Some sig ↦ local_names sig.params | None ↦ replicate (count_by counts u.index) None ]

abbrev pub locals_by : List ℕ → Option (Function Name ℕ) → List (Option (List ℕ))
locals_by counts None = []
locals_by counts (Some f) = params_by counts f.type_use ++ local_names f.locals
