-- Fields whose uses have their types, by types that are known.
use Rattle.std.specs.Prelude.{ℕ, List, ◌++◌, map, Option}
use Rattle.wast_grammar.specs.Tokens.{Name}
use Rattle.wast_signatures.specs.TypeTree.{Sig}
use Rattle.wast_module_fields.specs.FieldTree.{Field, field_place}
use Rattle.wast_meaning.specs.Changed.{Change}
use Rattle.wast_meaning.specs.Numbered.{taking, with_types, implied_field}
use Rattle.wast_implied.specs.Shapes.{shape}
use Rattle.wast_implied.specs.Known.{Known}
use Rattle.wast_implied.specs.Views.{known}
use Rattle.wast_expanded.specs.declared.taking.Taking.{Taking}

-- the number of the type that a use of a signature takes
abbrev pub taken : Known → Sig Name ℕ → Option ℕ
taken k s = k.types.look (shape s)

-- what becomes of the indices in a field
abbrev pub taking_of : Taking → Change Name ℕ
taking_of t = taking (taken (known t.implied.now)) t.place

-- a field whose uses have their types
abbrev pub field_taken : Known → Field Name ℕ → Field Name ℕ
field_taken k f = with_types (taken k) (field_place f) f

-- fields whose uses have their types, then the implied types
abbrev pub expanded_by : Known → List (Field Name ℕ) → List (Field Name ℕ)
expanded_by k fs = map (field_taken k) fs ++ map implied_field k.implied
